use Rattle.std.proofs.Common.{◌≡◌, ◌-◌, map}
use Rattle.wasm_forms.specs.Reading.{◌>>=◌}
use Rattle.wasm_forms.specs.Grammar.{at, row_at, behind}
use Rattle.wasm_payloads.specs.Producers.{value, value_record}
use Rattle.wasm_payloads.proofs.producers.read_values.Given as goal

abbrev pub invariant-values : goal.invariant-values
invariant-values l = row_at (at value) l.count l.bytes ≡ (row_at (at value) (l.count - l._taken) l.rest >>= behind (map value_record l.values.items))
