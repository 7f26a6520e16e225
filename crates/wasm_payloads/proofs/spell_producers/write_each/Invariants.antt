use Rattle.std.proofs.Common.{◌≡◌, ◌≤◌, ◌++◌, take, vec_capacity}
use Rattle.wasm_forms.specs.Writing.{EachFits}
use Rattle.wasm_forms.specs.Spelling.{row_bytes}
use Rattle.wasm_payloads.specs.Producers.{value_record}
use Rattle.wasm_payloads.specs.Spelling.{value_bytes, ValueFits}
use Rattle.wasm_payloads.proofs.spell_producers.write_each.Given as goal

abbrev pub invariant-values : goal.invariant-values
invariant-values l = record {
  written : l.to.items ≡ l.fn.to.items ++ row_bytes (λ v. value_bytes (value_record v)) (take l.value-index l.values);
  fit : EachFits (λ v. ValueFits (value_record v)) (take l.value-index l.values);
  room : vec_capacity l.fn.to ≤ vec_capacity l.to;
}
