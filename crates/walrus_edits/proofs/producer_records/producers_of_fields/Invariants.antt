use Rattle.std.proofs.Common.{◌≡◌, ◌++◌, drop, map}
use Rattle.walrus_producers.specs.Seen.{fields_seen}
use Rattle.walrus_edits.specs.ItemSteps.{producer_told}
use Rattle.walrus_edits.specs.ItemValues.{producers_in}
use Rattle.walrus_edits.proofs.producer_records.producers_of_fields.Given as goal

-- the producers of the fields so far, and of those that are left
abbrev pub invariant-fields : goal.invariant-fields
invariant-fields l = map producer_told l.all.items ++ producers_in (fields_seen (drop l.field-index l.fields)) ≡ producers_in (fields_seen l.fields)
