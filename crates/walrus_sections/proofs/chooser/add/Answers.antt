use Rattle.std.proofs.Common.{◌≡◌, ◌∙◌, sym, rules}
use Rattle.walrus_sections.proofs.Choosers.{plain_more, starred_more}
use Rattle.walrus_sections.proofs.chooser.add.Goals as goal

pub returns-in_ok-push : goal.returns-in_ok-push
returns-in_ok-push c =
    let kind : c.args.choice.now.is_kept ≡ c.args.is_kept = search rules in
    λ text. starred_more c.args.plain.now.items c.args.starred.now.items c.args.choice.now c.args.is_kept text c.push.new.self.items kind c.in_ok-push.ensures.items

pub returns-in_ok-push-2 : goal.returns-in_ok-push-2
returns-in_ok-push-2 c =
    let kind : c.args.choice.now.is_kept ≡ c.args.is_kept = search rules in
    λ text. plain_more c.args.plain.now.items c.args.starred.now.items c.args.choice.now c.args.is_kept text c.push-else-has_star.new.self.items kind (sym c.has_star.ensures ∙ c.if-has_star.false) c.in_ok-push-2.ensures.items
