use Rattle.std.proofs.Common.{sym, ◌∙◌}
use Rattle.walrus_base.specs.Arena.{slots}
use Rattle.walrus_base.proofs.Entries.{all_live, live_places_seen}
use Rattle.walrus_items.specs.Held.{held}
use Rattle.walrus_items.proofs.items.Items.ids.Goals as goal

pub returns-clause-value : goal.returns-clause-value
returns-clause-value g c = c.in_ok-ids.ensures.value ∙ sym (live_places_seen g.T.Item.value (slots c.args.self.now.arena))

pub returns-clause-live : goal.returns-clause-live
returns-clause-live g c =
    let same = c.in_ok-ids.ensures.value ∙ sym (live_places_seen g.T.Item.value (slots c.args.self.now.arena)) in
    all_live (held g.T.Item.value c.args.self.now) _ same
