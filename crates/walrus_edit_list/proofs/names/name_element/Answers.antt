use Rattle.std.proofs.Common.{List, ap}
use Rattle.std.specs.Prelude.{ℕ, Option}
use Rattle.walrus_base.specs.Id.{place}
use Rattle.walrus_items.specs.Elements.{element_value}
use Rattle.walrus_edit_list.specs.Edits.{name_given}
use Rattle.walrus_edit_list.proofs.Places.{changed}
use Rattle.walrus_edit_list.proofs.names.name_element.Goals as goal

pub returns : goal.returns
returns c =
    changed element_value (λ x. record x { name = name_given c.args.name }) c.args.all.now.arena.places.items (place c.at-id.result) c.args.number _
    (element_value c.get_mut.result.now) c.at-id.ensures c.get_mut.ensures.value
    (ap (λ (n : Option (List ℕ)). record (element_value c.get_mut.result.now) { name = n }) c.in_ok-name.ensures.value)
