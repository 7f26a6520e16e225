use Rattle.std.proofs.Common.{◌++◌, ap, ◌∙◌, string_bytes}
use Rattle.std.proofs.lemmas.List.{take_all}
use Rattle.wasm_forms.specs.Spelling.{row_bytes}
use Rattle.wasm_payloads.specs.Producers.{value_record}
use Rattle.wasm_copy.specs.Listing.{value_line}
use Rattle.wasm_copy.proofs.Rows.{row_more, row_map}
use Rattle.wasm_copy.proofs.listing.write_field.Goals as goal

pub values-preserved : goal.values-preserved
values-preserved c =
    row_more (λ v. value_line c.args.field.now.name.now (value_record v)) c.deref-name-items.result.now c.values.name-index _ (string_bytes c.args.text.now) (string_bytes c.values.text) (string_bytes c.push_str.new.self) c.values-test.true c.values.invariant
    (c.in_ok-push_str.ensures.bytes ∙ ap (λ l. string_bytes c.values.text ++ l) (c.deref.ensures ∙ c.in_ok-line.ensures))

pub returns : goal.returns
returns c =
    c.values.invariant
    ∙ ap (λ vs. string_bytes c.args.text.now ++ row_bytes (λ v. value_line c.args.field.now.name.now (value_record v)) vs) (take_all c.values.name-index c.deref-name-items.result.now c.values-test.false ∙ c.deref-name-items.ensures.value)
    ∙ ap (λ l. string_bytes c.args.text.now ++ l) (row_map (value_line c.args.field.now.name.now) value_record c.args.field.now.values.items)
