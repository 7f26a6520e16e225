use Rattle.std.proofs.Common.{◌≡◌, ◌++◌, map, drop}
use Rattle.wasm_payloads.specs.Producers.{value_record}
use Rattle.walrus_producers.specs.Seen.{values_seen}
use Rattle.walrus_theorem.specs.Text.{raw_value}
use Rattle.walrus_writing.proofs.producers.lent_values.Given as goal

-- the values so far, and those that are still to come
abbrev pub invariant-values : goal.invariant-values
invariant-values l = map value_record l.raw.items ++ map raw_value (values_seen (drop l.value-index l.values)) ≡ map raw_value (values_seen l.values)
