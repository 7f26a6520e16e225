use Rattle.std.proofs.Common.{◌≡◌, ◌++◌, map, take}
use Rattle.wasm_payloads.specs.Producers.{field_record}
use Rattle.walrus_producers.specs.Seen.{producers}
use Rattle.walrus_theorem.specs.Headline.{field_of}
use Rattle.walrus_reading.proofs.producers.push_fields.Given as goal

-- the fields so far stand behind those that were there
abbrev pub invariant-fields : goal.invariant-fields
invariant-fields l = producers l.made ≡ producers l.fn.made ++ map field_of (map field_record (take l.field-index l.fields))
