use Rattle.std.proofs.Common.{◌++◌, ap, ◌∙◌, string_bytes}
use Rattle.std.proofs.lemmas.List.{take_all}
use Rattle.wasm_forms.specs.Spelling.{row_bytes}
use Rattle.wasm_payloads.specs.Producers.{field_record}
use Rattle.wasm_copy.specs.Listing.{field_lines}
use Rattle.wasm_copy.proofs.Rows.{row_more, row_map}
use Rattle.wasm_copy.proofs.listing.write_fields.Goals as goal

pub fields-preserved : goal.fields-preserved
fields-preserved c =
    row_more (λ f. field_lines (field_record f)) c.args.fields.now c.fields.field-index _ (string_bytes c.args.text.now) (string_bytes c.fields.text) (string_bytes c.write_field.new.text) c.fields-test.true c.fields.invariant
    (c.in_ok-write_field.ensures ∙ ap (λ f. string_bytes c.fields.text ++ field_lines (field_record f)) c.field-item.is)

pub returns : goal.returns
returns c =
    c.fields.invariant
    ∙ ap (λ fs. string_bytes c.args.text.now ++ row_bytes (λ f. field_lines (field_record f)) fs) (take_all c.fields.field-index c.args.fields.now c.fields-test.false)
    ∙ ap (λ l. string_bytes c.args.text.now ++ l) (row_map field_lines field_record c.args.fields.now)
