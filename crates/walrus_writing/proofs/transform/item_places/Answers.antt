use Rattle.std.proofs.Common.{◌∙◌, ℕ, [], map, refl, sym, ap}
use Rattle.std.specs.Prelude.{Some, option_and_then, option_map}
use Rattle.std.proofs.lemmas.Result.{err_from_is_err_and}
use Rattle.walrus_base.specs.Arena.{items}
use Rattle.walrus_base.specs.Id.{place}
use Rattle.walrus_base.specs.Operators.{Types}
use Rattle.walrus_base.specs.Shape.{place_in}
use Rattle.walrus_code.specs.Indices.{index_of}
use Rattle.walrus_constants.specs.Named.{named_global, named_table}
use Rattle.walrus_contents.specs.View.{global_of, parts_view, table_of, tag_of}
use Rattle.walrus_items.specs.Globals.{GlobalValue, globals}
use Rattle.walrus_items.specs.Tables.{TableValue, tables}
use Rattle.walrus_items.specs.Tags.{TagValue, tags}
use Rattle.wasm_entries.specs.Record.{group}
use Rattle.wasm_frames.specs.Record.{custom_record}
use Rattle.walrus_writing.specs.Customs.{task}
use Rattle.wasm_writer.specs.declared.places.CodePlaces.{CodePlaces}
use Rattle.walrus_writing.specs.Parts.{type_index, tag_index, unplaced}
use Rattle.walrus_plan.specs.Places.{places}
use Rattle.walrus_theorem.proofs.Matches.{imports_live}
use Rattle.walrus_writing.proofs.ImportsIndexed.{imports_indexed, written_indexed}
use Rattle.walrus_writing.proofs.Indexed.{ids_typed, no_type_lacks, exports_indexed, data_indexed, elements_indexed, globals_indexed, start_indexed, tables_indexed, tags_indexed}
use Rattle.walrus_writing.proofs.LocatedBodies.{seen_are, seen_in, seen_texts}
use Rattle.walrus_writing.proofs.OwnPlaces.{own_indexed}
use Rattle.walrus_writing.proofs.RefusesUnspelled.{imports_refused}
use Rattle.walrus_writing.proofs.Refusing.{data_refused, elements_refused, globals_refused, places_refused, places_told, tables_refused, types_refused}
use Rattle.walrus_writing.proofs.transform.item_places.Goals as goal

pub raw_types-requires : goal.raw_types-requires
raw_types-requires c = record {
  numbered = λ t. c.requires.planned.numbered Types t ∙ ap (λ ps. place_in ps t) c.requires.planned.lists.types;
  indexed = no_type_lacks c.args.parts c.requires.there (index_of c.args.prepared.now.indices) (places c.args.prepared.now.plan) c.requires.planned.is_plan c.requires.planned.numbered;
}

pub returns-in_err-types-clause-refused : goal.returns-in_err-types-clause-refused
returns-in_err-types-clause-refused c = λ sections same.
    let p = err_from_is_err_and c.from_residual.result c.from_residual.ensures.1 in
    rw (p.1, p.2) (types_refused c.args.parts (task c.args.choices.now (index_of c.args.prepared.now.indices) sections) CodePlaces _ c.in_err-types.ensures.fails)

pub raw_imports-requires : goal.raw_imports-requires
raw_imports-requires c = record {
  live = imports_live (parts_view c.args.parts) c.requires.there;
  indexed = imports_indexed (index_of c.args.prepared.now.indices) c.args.parts (written_indexed (index_of c.args.prepared.now.indices) (places c.args.prepared.now.plan) (parts_view c.args.parts) c.requires.planned.numbered c.requires.planned.is_plan c.requires.there);
}

pub returns-in_err-imports-clause-refused : goal.returns-in_err-imports-clause-refused
returns-in_err-imports-clause-refused c = λ sections same.
    let p = err_from_is_err_and c.from_residual-in_err-imports.result c.from_residual-in_err-imports.ensures.1 in
    rw (p.1, p.2) (imports_refused c.args.parts (task c.args.choices.now (index_of c.args.prepared.now.indices) sections) CodePlaces _ c.in_err-imports.ensures.fails)

pub raw_functions-requires : goal.raw_functions-requires
raw_functions-requires c = record {
  indexed = ids_typed c.args.parts c.requires.there (index_of c.args.prepared.now.indices) (places c.args.prepared.now.plan) c.requires.planned.is_plan c.requires.planned.numbered c.args.prepared.now.plan.own_functions.items _ c.requires.planned.lists.own c.as_slice-order.ensures.value;
}

pub raw_tables-requires : goal.raw_tables-requires
raw_tables-requires c = record {
  indexed = own_indexed (λ (t : TableValue). t.imported_by) (λ t. named_table (index_of c.args.prepared.now.indices) (table_of t)) (items (tables c.args.parts.tables.now))
      (tables_indexed c.args.parts c.requires.there (index_of c.args.prepared.now.indices) (places c.args.prepared.now.plan) c.requires.planned.is_plan c.requires.planned.numbered);
}

pub returns-in_err-tables-clause-refused : goal.returns-in_err-tables-clause-refused
returns-in_err-tables-clause-refused c = λ sections same.
    let p = err_from_is_err_and c.from_residual-in_err-tables.result c.from_residual-in_err-tables.ensures.1 in
    rw (p.1, p.2) (tables_refused c.args.parts (task c.args.choices.now (index_of c.args.prepared.now.indices) sections) CodePlaces _ c.in_err-tables.ensures.fails)

pub raw_globals-requires : goal.raw_globals-requires
raw_globals-requires c = record {
  indexed = own_indexed (λ (g : GlobalValue). g.imported_by) (λ g. named_global (index_of c.args.prepared.now.indices) (global_of g)) (items (globals c.args.parts.globals.now))
      (globals_indexed c.args.parts c.requires.there (index_of c.args.prepared.now.indices) (places c.args.prepared.now.plan) c.requires.planned.is_plan c.requires.planned.numbered);
}

pub returns-in_err-globals-clause-refused : goal.returns-in_err-globals-clause-refused
returns-in_err-globals-clause-refused c = λ sections same.
    let p = err_from_is_err_and c.from_residual-in_err-globals.result c.from_residual-in_err-globals.ensures.1 in
    rw (p.1, p.2) (globals_refused c.args.parts (task c.args.choices.now (index_of c.args.prepared.now.indices) sections) CodePlaces _ c.in_err-globals.ensures.fails)

pub raw_tags-requires : goal.raw_tags-requires
raw_tags-requires c = record {
  indexed = own_indexed (λ (t : TagValue). t.imported_by) (λ t. tag_index (index_of c.args.prepared.now.indices) (tag_of t)) (items (tags c.args.parts.tags.now))
      (tags_indexed c.args.parts c.requires.there (index_of c.args.prepared.now.indices) (places c.args.prepared.now.plan) c.requires.planned.is_plan c.requires.planned.numbered);
}

pub raw_exports-requires : goal.raw_exports-requires
raw_exports-requires c = record {
  indexed = exports_indexed c.args.parts c.requires.there (index_of c.args.prepared.now.indices) (places c.args.prepared.now.plan) c.requires.planned.is_plan c.requires.planned.numbered;
}

pub raw_elements-requires : goal.raw_elements-requires
raw_elements-requires c = record {
  indexed = elements_indexed c.args.parts c.requires.there (index_of c.args.prepared.now.indices) (places c.args.prepared.now.plan) c.requires.planned.is_plan c.requires.planned.numbered;
}

pub returns-in_err-elements-clause-refused : goal.returns-in_err-elements-clause-refused
returns-in_err-elements-clause-refused c = λ sections same.
    let p = err_from_is_err_and c.from_residual-in_err-elements.result c.from_residual-in_err-elements.ensures.1 in
    rw (p.1, p.2) (elements_refused c.args.parts (task c.args.choices.now (index_of c.args.prepared.now.indices) sections) CodePlaces _ c.in_err-elements.ensures.fails)

pub raw_data-requires : goal.raw_data-requires
raw_data-requires c = record {
  indexed = data_indexed c.args.parts c.requires.there (index_of c.args.prepared.now.indices) (places c.args.prepared.now.plan) c.requires.planned.is_plan c.requires.planned.numbered;
}

pub returns-in_err-data_segments-clause-refused : goal.returns-in_err-data_segments-clause-refused
returns-in_err-data_segments-clause-refused c = λ sections same.
    let p = err_from_is_err_and c.from_residual-in_err-data_segments.result c.from_residual-in_err-data_segments.ensures.1 in
    rw (p.1, p.2) (data_refused c.args.parts (task c.args.choices.now (index_of c.args.prepared.now.indices) sections) CodePlaces _ c.in_err-data_segments.ensures.fails)

pub returns-in_err-places-clause-refused : goal.returns-in_err-places-clause-refused
returns-in_err-places-clause-refused c = λ sections same.
    let names = index_of c.args.prepared.now.indices in
    let plan = c.requires.planned in
    let codes = sym (ap (map unplaced) (seen_texts c.args.parts names c.args.choices.now.features c.args.prepared.now.plan.own_functions.items c.args.bodies.now c.requires.written)) in
    let p = err_from_is_err_and c.from_residual-in_err-places.result c.from_residual-in_err-places.ensures.1 in
    rw (p.1, p.2) (places_refused c.args.parts (task c.args.choices.now names sections) names refl c.args.prepared.now.plan (map group c.in_ok-types.types.items) c.in_ok-imports.imports.items c.in_ok-functions.functions.items c.in_ok-tables.tables.items c.in_ok-memories.memories.items c.in_ok-tags.tags.items c.in_ok-globals.globals.items c.in_ok-exports.exports.items (seen_in c.args.parts names c.args.choices.now.features c.args.prepared.now.plan.own_functions.items c.args.bodies.now c.requires.written) c.in_ok-elements.elements.items c.in_ok-data_segments.data_segments.items c.args.prepared.now.data_count
    plan.matched plan.reads plan.is_plan plan.numbered plan.few
    plan.lists.types plan.lists.brought plan.lists.tables plan.lists.memories plan.lists.tags plan.lists.globals
    c.in_ok-types.ensures.value c.in_ok-imports.ensures.value
    (c.in_ok-functions.ensures.value ∙ ap (map (λ id. option_and_then (type_index names) ((parts_view c.args.parts).functions (place id)))) c.as_slice-order.ensures.value)
    c.in_ok-tables.ensures.value c.in_ok-tables.ensures.stand c.in_ok-tables.ensures.spelled
    c.in_ok-memories.ensures.value c.in_ok-memories.ensures.stand c.in_ok-tags.ensures.value
    c.in_ok-globals.ensures.value c.in_ok-globals.ensures.stand c.in_ok-globals.ensures.spelled
    c.in_ok-exports.ensures.value c.in_ok-exports.ensures.text
    c.raw_start-start.result (ap (option_map (λ (i : ℕ). Some i)) c.raw_start-start.ensures ∙ start_indexed c.args.parts c.requires.there names (places c.args.prepared.now.plan) plan.is_plan plan.numbered)
    (seen_are c.args.parts names c.args.choices.now.features c.args.prepared.now.plan.own_functions.items c.args.bodies.now c.requires.written)
    plan.lists.elements c.in_ok-elements.ensures.value c.in_ok-elements.ensures.stand c.in_ok-elements.ensures.chosen c.in_ok-elements.ensures.spelled
    plan.lists.data_segments c.in_ok-data_segments.ensures.value c.in_ok-data_segments.ensures.stand c.in_ok-data_segments.ensures.spelled plan.data_count
    _ _ _ (map custom_record c.args.dylinks.now) c.new.ensures.items
    (c.in_ok-code.ensures.value ∙ codes) c.in_ok-customs.ensures.value
    same CodePlaces _ c.in_err-places.ensures)

pub returns-clause-told : goal.returns-clause-told
returns-clause-told c =
    let names = index_of c.args.prepared.now.indices in
    let plan = c.requires.planned in
    let codes = sym (ap (map unplaced) (seen_texts c.args.parts names c.args.choices.now.features c.args.prepared.now.plan.own_functions.items c.args.bodies.now c.requires.written)) in
    places_told c.args.parts (task c.args.choices.now names []) names refl c.args.prepared.now.plan (map group c.in_ok-types.types.items) c.in_ok-imports.imports.items c.in_ok-functions.functions.items c.in_ok-tables.tables.items c.in_ok-memories.memories.items c.in_ok-tags.tags.items c.in_ok-globals.globals.items c.in_ok-exports.exports.items (seen_in c.args.parts names c.args.choices.now.features c.args.prepared.now.plan.own_functions.items c.args.bodies.now c.requires.written) c.in_ok-elements.elements.items c.in_ok-data_segments.data_segments.items c.args.prepared.now.data_count
    plan.matched plan.reads plan.is_plan plan.numbered plan.few
    plan.lists.types plan.lists.brought plan.lists.tables plan.lists.memories plan.lists.tags plan.lists.globals
    c.in_ok-types.ensures.value c.in_ok-imports.ensures.value
    (c.in_ok-functions.ensures.value ∙ ap (map (λ id. option_and_then (type_index names) ((parts_view c.args.parts).functions (place id)))) c.as_slice-order.ensures.value)
    c.in_ok-tables.ensures.value c.in_ok-tables.ensures.stand c.in_ok-tables.ensures.spelled
    c.in_ok-memories.ensures.value c.in_ok-memories.ensures.stand c.in_ok-tags.ensures.value
    c.in_ok-globals.ensures.value c.in_ok-globals.ensures.stand c.in_ok-globals.ensures.spelled
    c.in_ok-exports.ensures.value c.in_ok-exports.ensures.text
    c.raw_start-start.result (ap (option_map (λ (i : ℕ). Some i)) c.raw_start-start.ensures ∙ start_indexed c.args.parts c.requires.there names (places c.args.prepared.now.plan) plan.is_plan plan.numbered)
    (seen_are c.args.parts names c.args.choices.now.features c.args.prepared.now.plan.own_functions.items c.args.bodies.now c.requires.written)
    plan.lists.elements c.in_ok-elements.ensures.value c.in_ok-elements.ensures.stand c.in_ok-elements.ensures.chosen c.in_ok-elements.ensures.spelled
    plan.lists.data_segments c.in_ok-data_segments.ensures.value c.in_ok-data_segments.ensures.stand c.in_ok-data_segments.ensures.spelled plan.data_count
    _ _ _ (map custom_record c.args.dylinks.now) c.new.ensures.items
    (c.in_ok-code.ensures.value ∙ codes) c.in_ok-customs.ensures.value
    c.in_ok-places.places _ (seen_texts c.args.parts names c.args.choices.now.features c.args.prepared.now.plan.own_functions.items c.args.bodies.now c.requires.written) c.in_ok-places.ensures
