use Rattle.std.proofs.Common.{◌≡◌, ◌++◌, map, ap, refl, ◌∙◌, string_bytes, alloc_error}
use Rattle.wasm_forms.specs.Spelling.{row_bytes}
use Rattle.wasm_forms.specs.declared.error.WireError.TheVariants.{Memory}
use Rattle.wasm_frames.specs.Record.{custom_record}
use Rattle.wasm_payloads.specs.Producers.{field_record}
use Rattle.wasm_copy.specs.Listing.{of_producers, field_lines, is_below}
use Rattle.wasm_copy.proofs.Listed.{names_listed}
use Rattle.wasm_copy.proofs.listing.write_section.Goals as goal

pub returns-in-name-clause-listed : goal.returns-in-name-clause-listed
returns-in-name-clause-listed c =
    names_listed (λ s. string_bytes s.text) (λ _ _ e. e ≡ Memory alloc_error) (is_below c.args.lines.now.functions) (custom_record c.args.section.now) c.args.lines.now c.read_names.new.sink c.read_names.result c.in-name.is c.read_names.ensures.handed

pub returns-in_ok-write_fields-in-producers-clause-listed :
    goal.returns-in_ok-write_fields-in-producers-clause-listed
returns-in_ok-write_fields-in-producers-clause-listed c =
    let fields = c.in_ok-fields-in-producers.fields.items in (
      row_bytes field_lines (map field_record fields),
      (
        of_producers (map field_record fields) c.in-producers.is c.in_ok-fields-in-producers.ensures refl,
        c.in_ok-write_fields-in-producers.ensures
            ∙ ap (λ fs. string_bytes c.args.lines.now.text ++ row_bytes field_lines (map field_record fs)) c.deref.ensures.value,
      ),
    )
