use Rattle.std.proofs.Common.{ap, ◌∙◌, arith}
use Rattle.std.specs.Prelude.{Some}
use Rattle.std.proofs.lemmas.List.{map-id}
use Rattle.wasm_frames.specs.Frames.{Functions, Memories}
use Rattle.wasm_frames.specs.Steps.{section_record}
use Rattle.wasm_frames.proofs.Contents.{custom_found, custom_refused, types_found, types_refused, imports_found, imports_refused, functions_found, functions_refused, tables_found, tables_refused, memories_found, memories_refused, globals_found, globals_refused, exports_found, exports_refused, start_found, start_refused, elements_found, elements_refused, code_found, code_refused, segments_found, segments_refused, data_count_found, data_count_refused, tags_found, tags_refused, no_content}
use Rattle.wasm_frames.proofs.section.read_content.Goals as goal

pub returns-in_err-read_custom-in-0 : goal.returns-in_err-read_custom-in-0
returns-in_err-read_custom-in-0 c = custom_refused c.args.id c.args.place c.args.bytes.now section_record c.from_residual.result _ c.in-0.is c.in_err-read_custom-in-0.ensures c.from_residual.ensures.1

pub returns-in_ok-read_custom-in-0 : goal.returns-in_ok-read_custom-in-0
returns-in_ok-read_custom-in-0 c = custom_found c.args.id c.args.place c.args.bytes.now _ c.in-0.is c.in_ok-read_custom-in-0.ensures

pub returns-in_err-read_all_groups-in-1 : goal.returns-in_err-read_all_groups-in-1
returns-in_err-read_all_groups-in-1 c = types_refused c.args.id c.args.place c.args.bytes.now section_record c.from_residual-in_err-read_all_groups-in-1.result _ c.in-1.is c.in_err-read_all_groups-in-1.ensures c.from_residual-in_err-read_all_groups-in-1.ensures.1

pub returns-in_ok-read_all_groups-in-1 : goal.returns-in_ok-read_all_groups-in-1
returns-in_ok-read_all_groups-in-1 c = types_found c.args.id c.args.place c.args.bytes.now _ c.in-1.is c.in_ok-read_all_groups-in-1.ensures

pub returns-in_err-read_all-in-2 : goal.returns-in_err-read_all-in-2
returns-in_err-read_all-in-2 c = imports_refused c.args.id c.args.place c.args.bytes.now section_record c.from_residual-in_err-read_all-in-2.result _ c.in-2.is c.in_err-read_all-in-2.ensures c.from_residual-in_err-read_all-in-2.ensures.1

pub returns-in_ok-read_all-in-2 : goal.returns-in_ok-read_all-in-2
returns-in_ok-read_all-in-2 c = imports_found c.args.id c.args.place c.args.bytes.now _ c.in-2.is c.in_ok-read_all-in-2.ensures

pub returns-in_err-read_all-in-3 : goal.returns-in_err-read_all-in-3
returns-in_err-read_all-in-3 c = functions_refused c.args.id c.args.place c.args.bytes.now section_record c.from_residual-in_err-read_all-in-3.result _ c.in-3.is c.in_err-read_all-in-3.ensures c.from_residual-in_err-read_all-in-3.ensures.1

pub returns-in_ok-read_all-in-3 : goal.returns-in_ok-read_all-in-3
returns-in_ok-read_all-in-3 c = functions_found c.args.id c.args.place c.args.bytes.now _ c.in-3.is c.in_ok-read_all-in-3.ensures ∙ ap (λ l. Some (Functions l)) (map-id c.in_ok-read_all-in-3.field-0.items)

pub returns-in_err-read_all-in-4 : goal.returns-in_err-read_all-in-4
returns-in_err-read_all-in-4 c = tables_refused c.args.id c.args.place c.args.bytes.now section_record c.from_residual-in_err-read_all-in-4.result _ c.in-4.is c.in_err-read_all-in-4.ensures c.from_residual-in_err-read_all-in-4.ensures.1

pub returns-in_ok-read_all-in-4 : goal.returns-in_ok-read_all-in-4
returns-in_ok-read_all-in-4 c = tables_found c.args.id c.args.place c.args.bytes.now _ c.in-4.is c.in_ok-read_all-in-4.ensures

pub returns-in_err-read_all-in-5 : goal.returns-in_err-read_all-in-5
returns-in_err-read_all-in-5 c = memories_refused c.args.id c.args.place c.args.bytes.now section_record c.from_residual-in_err-read_all-in-5.result _ c.in-5.is c.in_err-read_all-in-5.ensures c.from_residual-in_err-read_all-in-5.ensures.1

pub returns-in_ok-read_all-in-5 : goal.returns-in_ok-read_all-in-5
returns-in_ok-read_all-in-5 c = memories_found c.args.id c.args.place c.args.bytes.now _ c.in-5.is c.in_ok-read_all-in-5.ensures ∙ ap (λ l. Some (Memories l)) (map-id c.in_ok-read_all-in-5.field-0.items)

pub returns-in_err-read_all-in-6 : goal.returns-in_err-read_all-in-6
returns-in_err-read_all-in-6 c = globals_refused c.args.id c.args.place c.args.bytes.now section_record c.from_residual-in_err-read_all-in-6.result _ c.in-6.is c.in_err-read_all-in-6.ensures c.from_residual-in_err-read_all-in-6.ensures.1

pub returns-in_ok-read_all-in-6 : goal.returns-in_ok-read_all-in-6
returns-in_ok-read_all-in-6 c = globals_found c.args.id c.args.place c.args.bytes.now _ c.in-6.is c.in_ok-read_all-in-6.ensures

pub returns-in_err-read_all-in-7 : goal.returns-in_err-read_all-in-7
returns-in_err-read_all-in-7 c = exports_refused c.args.id c.args.place c.args.bytes.now section_record c.from_residual-in_err-read_all-in-7.result _ c.in-7.is c.in_err-read_all-in-7.ensures c.from_residual-in_err-read_all-in-7.ensures.1

pub returns-in_ok-read_all-in-7 : goal.returns-in_ok-read_all-in-7
returns-in_ok-read_all-in-7 c = exports_found c.args.id c.args.place c.args.bytes.now _ c.in-7.is c.in_ok-read_all-in-7.ensures

pub returns-in_err-read_number-in-8 : goal.returns-in_err-read_number-in-8
returns-in_err-read_number-in-8 c = start_refused c.args.id c.args.place c.args.bytes.now section_record c.from_residual-in_err-read_number-in-8.result _ c.in-8.is c.in_err-read_number-in-8.ensures c.from_residual-in_err-read_number-in-8.ensures.1

pub returns-in_ok-read_number-in-8 : goal.returns-in_ok-read_number-in-8
returns-in_ok-read_number-in-8 c = start_found c.args.id c.args.place c.args.bytes.now _ c.in-8.is c.in_ok-read_number-in-8.ensures

pub returns-in_err-read_all-in-9 : goal.returns-in_err-read_all-in-9
returns-in_err-read_all-in-9 c = elements_refused c.args.id c.args.place c.args.bytes.now section_record c.from_residual-in_err-read_all-in-9.result _ c.in-9.is c.in_err-read_all-in-9.ensures c.from_residual-in_err-read_all-in-9.ensures.1

pub returns-in_ok-read_all-in-9 : goal.returns-in_ok-read_all-in-9
returns-in_ok-read_all-in-9 c = elements_found c.args.id c.args.place c.args.bytes.now _ c.in-9.is c.in_ok-read_all-in-9.ensures

pub returns-in_err-read_code-in-10 : goal.returns-in_err-read_code-in-10
returns-in_err-read_code-in-10 c = code_refused c.args.id c.args.place c.args.bytes.now section_record c.from_residual-in_err-read_code-in-10.result _ c.in-10.is c.in_err-read_code-in-10.ensures c.from_residual-in_err-read_code-in-10.ensures.1

pub returns-in_ok-read_code-in-10 : goal.returns-in_ok-read_code-in-10
returns-in_ok-read_code-in-10 c = code_found c.args.id c.args.place c.args.bytes.now _ c.in-10.is c.in_ok-read_code-in-10.ensures

pub returns-in_err-read_all-in-11 : goal.returns-in_err-read_all-in-11
returns-in_err-read_all-in-11 c = segments_refused c.args.id c.args.place c.args.bytes.now section_record c.from_residual-in_err-read_all-in-11.result _ c.in-11.is c.in_err-read_all-in-11.ensures c.from_residual-in_err-read_all-in-11.ensures.1

pub returns-in_ok-read_all-in-11 : goal.returns-in_ok-read_all-in-11
returns-in_ok-read_all-in-11 c = segments_found c.args.id c.args.place c.args.bytes.now _ c.in-11.is c.in_ok-read_all-in-11.ensures

pub returns-in_err-read_number-in-12 : goal.returns-in_err-read_number-in-12
returns-in_err-read_number-in-12 c = data_count_refused c.args.id c.args.place c.args.bytes.now section_record c.from_residual-in_err-read_number-in-12.result _ c.in-12.is c.in_err-read_number-in-12.ensures c.from_residual-in_err-read_number-in-12.ensures.1

pub returns-in_ok-read_number-in-12 : goal.returns-in_ok-read_number-in-12
returns-in_ok-read_number-in-12 c = data_count_found c.args.id c.args.place c.args.bytes.now _ c.in-12.is c.in_ok-read_number-in-12.ensures

pub returns-in_err-read_all_tags-in-13 : goal.returns-in_err-read_all_tags-in-13
returns-in_err-read_all_tags-in-13 c = tags_refused c.args.id c.args.place c.args.bytes.now section_record c.from_residual-in_err-read_all_tags-in-13.result _ c.in-13.is c.in_err-read_all_tags-in-13.ensures c.from_residual-in_err-read_all_tags-in-13.ensures.1

pub returns-in_ok-read_all_tags-in-13 : goal.returns-in_ok-read_all_tags-in-13
returns-in_ok-read_all_tags-in-13 c = tags_found c.args.id c.args.place c.args.bytes.now _ c.in-13.is c.in_ok-read_all_tags-in-13.ensures

pub returns-in_default : goal.returns-in_default
returns-in_default c = no_content c.args.id c.args.place c.args.bytes.now (λ e. omega (arith, e)) (λ e. omega (arith, e)) (λ e. omega (arith, e)) (λ e. omega (arith, e)) (λ e. omega (arith, e)) (λ e. omega (arith, e)) (λ e. omega (arith, e)) (λ e. omega (arith, e)) (λ e. omega (arith, e)) (λ e. omega (arith, e)) (λ e. omega (arith, e)) (λ e. omega (arith, e)) (λ e. omega (arith, e)) (λ e. omega (arith, e))
