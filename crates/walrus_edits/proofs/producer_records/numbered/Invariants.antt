use Rattle.std.proofs.Common.{◌≡◌, ◌++◌, drop, length, map}
use Rattle.walrus.specs.Frames.Record.{custom_record}
use Rattle.walrus_edits.specs.ItemSteps.{custom_told}
use Rattle.walrus_edits.specs.ItemValues.{customs_from, with_ids}
use Rattle.walrus_edits.proofs.producer_records.numbered.Given as goal

-- the sections so far, and those that have an id of what is left
abbrev pub invariant-sections : goal.invariant-sections
invariant-sections l = map custom_told l.kept.items ++ customs_from (length l.kept.items) (with_ids (map custom_record (drop l.custom-index l.customs))) ≡ customs_from 0 (with_ids (map custom_record l.customs))
