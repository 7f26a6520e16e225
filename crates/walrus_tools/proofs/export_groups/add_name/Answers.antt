use Rattle.std.proofs.Common.{◌≡◌, ◌∷◌, [], ◌++◌, None, ap, sym, ◌∙◌}
use Rattle.std.specs.HashMap.{get}
use Rattle.std.specs.Option.{option_copied_mut}
use Rattle.walrus_tools.specs.LinkSteps.{same_key, texts, texts_of}
use Rattle.walrus_tools.proofs.LinkLemmas.{name_added}
use Rattle.walrus_tools.proofs.export_groups.add_name.Goals as goal

pub returns-in_ok-insert-in-None : goal.returns-in_ok-insert-in-None
returns-in_ok-insert-in-None c = λ other.
    let before = c.get_mut.follows.lender-at-none in
    let same = c.get_mut.follows.holds-at-none in
    let none : get same_key before c.args.key ≡ None = ap (λ m. get same_key m c.args.key) same ∙ sym c.get_mut.ensures.value ∙ ap (λ r. option_copied_mut r) c.in-None.is in
    rw (sym same) (name_added before c.insert.new.self c.args.key c.push-in-None.new.self c.args.name.now
    (ap texts c.in_ok-push-in-None.ensures.items ∙ ap (λ ns. texts (ns ++ c.args.name ∷ [])) c.new-names.ensures.items ∙ sym (ap (λ o. texts_of o ++ c.args.name.now ∷ []) none))
    c.in_ok-insert-in-None.ensures.updates.0 other)
