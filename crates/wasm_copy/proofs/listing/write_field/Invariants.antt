use Rattle.std.proofs.Common.{◌≡◌, ◌++◌, take, string_bytes}
use Rattle.wasm_forms.specs.Spelling.{row_bytes}
use Rattle.wasm_payloads.specs.Producers.{value_record}
use Rattle.wasm_copy.specs.Listing.{value_line}
use Rattle.wasm_copy.proofs.listing.write_field.Given as goal

abbrev pub invariant-values : goal.invariant-values
invariant-values l = string_bytes l.text ≡ string_bytes l.fn.text ++ row_bytes (λ v. value_line l.field.name.now (value_record v)) (take l.name-index l.name-items)
