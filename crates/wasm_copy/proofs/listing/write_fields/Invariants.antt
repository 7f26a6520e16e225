use Rattle.std.proofs.Common.{◌≡◌, ◌++◌, take, string_bytes}
use Rattle.wasm_forms.specs.Spelling.{row_bytes}
use Rattle.wasm_payloads.specs.Producers.{field_record}
use Rattle.wasm_copy.specs.Listing.{field_lines}
use Rattle.wasm_copy.proofs.listing.write_fields.Given as goal

abbrev pub invariant-fields : goal.invariant-fields
invariant-fields l = string_bytes l.text ≡ string_bytes l.fn.text ++ row_bytes (λ f. field_lines (field_record f)) (take l.field-index l.fields)
