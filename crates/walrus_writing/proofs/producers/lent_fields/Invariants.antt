use Rattle.std.proofs.Common.{◌≡◌, ◌++◌, map, drop}
use Rattle.wasm_payloads.specs.Producers.{field_record}
use Rattle.walrus_producers.specs.Seen.{fields_seen}
use Rattle.walrus_theorem.specs.Text.{raw_field}
use Rattle.walrus_writing.proofs.producers.lent_fields.Given as goal

-- the fields so far, and those that are still to come
abbrev pub invariant-fields : goal.invariant-fields
invariant-fields l = map field_record l.raw.items ++ map raw_field (fields_seen (drop l.field-index l.fields)) ≡ map raw_field (fields_seen l.fields)
