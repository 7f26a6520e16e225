use Rattle.std.proofs.Common.{◌≡◌, ◌-◌, ◌++◌, map}
use Rattle.wasm_payloads.specs.Producers.{field_record}
use Rattle.wasm_payloads.specs.Steps.{times_at}
use Rattle.wasm_payloads.proofs.Found.{field_at}
use Rattle.wasm_payloads.proofs.producers.read_producers.Given as goal

abbrev pub invariant-fields : goal.invariant-fields
invariant-fields l = (times_at field_at l.count l.initial.rest).0 ≡ map field_record l.fields.items ++ (times_at field_at (l.count - l._taken) l.rest).0
