use Rattle.std.proofs.Common.{◌≡◌, ◌++◌, drop, map}
use Rattle.walrus_producers.specs.Seen.{values_seen}
use Rattle.walrus_edits.specs.ItemSteps.{producer_told}
use Rattle.walrus_edits.specs.ItemValues.{producers_of}
use Rattle.walrus_edits.proofs.producer_records.push_values.Given as goal

-- the producers so far, and those that are left
abbrev pub invariant-values : goal.invariant-values
invariant-values l = map producer_told l.to.items ++ producers_of l.field (values_seen (drop l.value-index l.values)) ≡ map producer_told l.fn.to.items ++ producers_of l.field (values_seen l.values)
