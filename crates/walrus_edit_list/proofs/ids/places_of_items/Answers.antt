use Rattle.walrus_code.specs.declared.numbering.IdsToIndices.{IdsToIndices}
use Rattle.walrus_edit_list.proofs.Numbered.{all_lead}
use Rattle.walrus_edit_list.proofs.ids.places_of_items.Goals as goal

pub returns-clause-value : goal.returns-clause-value
returns-clause-value g c =
    let indices : IdsToIndices = record { types = c.in_ok-first_places.field-0; functions = c.in_ok-first_places-2.field-0; tables = c.in_ok-first_places-3.field-0; memories = c.in_ok-first_places-4.field-0; tags = c.in_ok-first_places-5.field-0; globals = c.in_ok-first_places-6.field-0; elements = c.in_ok-first_places-7.field-0; data_ = c.in_ok-first_places-8.field-0 } in
    all_lead indices c.in_ok-first_places.ensures c.in_ok-first_places-2.ensures c.in_ok-first_places-3.ensures c.in_ok-first_places-4.ensures c.in_ok-first_places-5.ensures c.in_ok-first_places-6.ensures c.in_ok-first_places-7.ensures c.in_ok-first_places-8.ensures
