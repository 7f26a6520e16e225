use Rattle.std.proofs.Common.{◌∙◌, ◌++◌, ℕ, map, refl, ap}
use Rattle.std.specs.Prelude.{Some, not, option_map}
use Rattle.std.proofs.lemmas.Result.{err_from_is_err_and}
use Rattle.walrus_base.specs.Arena.{items}
use Rattle.walrus_base.specs.Operators.{Types}
use Rattle.walrus_base.specs.Shape.{place_in}
use Rattle.walrus_code.specs.Indices.{index_of}
use Rattle.walrus_constants.specs.Named.{named_global, named_table}
use Rattle.walrus_contents.specs.View.{global_of, parts_view, table_of, tag_of}
use Rattle.walrus_items.specs.Globals.{GlobalValue, globals}
use Rattle.walrus_items.specs.Tables.{TableValue, tables}
use Rattle.walrus_items.specs.Tags.{TagValue, tags}
use Rattle.wasm_entries.specs.Record.{group}
use Rattle.wasm_frames.specs.Record.{custom_record}
use Rattle.wasm_frames.specs.declared.record.Raw.{Raw}
use Rattle.walrus_writing.specs.Customs.{chosen_producers, task}
use Rattle.walrus_writing.specs.Names.{first_own, if_chosen, names_said}
use Rattle.walrus_writing.specs.Parts.{BodySeen, tag_index, unplaced}
use Rattle.walrus_plan.specs.Places.{places}
use Rattle.walrus_theorem.proofs.Matches.{imports_live}
use Rattle.walrus_writing.proofs.ImportsIndexed.{imports_indexed, written_indexed}
use Rattle.walrus_writing.proofs.Indexed.{no_type_lacks, exports_indexed, data_indexed, elements_indexed, globals_indexed, start_indexed, tables_indexed, tags_indexed}
use Rattle.walrus_writing.proofs.OwnPlaces.{own_indexed}
use Rattle.walrus_writing.proofs.RefusesUnspelled.{imports_refused}
use Rattle.walrus_writing.proofs.NamesSpelled.{sections_given, sections_refused}
use Rattle.walrus_writing.proofs.Refusing.{payloads_refused, types_refused, data_refused, elements_refused, globals_refused, tables_refused, records_made}
use Rattle.walrus_writing.proofs.write.raw_items.Goals as goal

pub raw_types-requires : goal.raw_types-requires
raw_types-requires c = record {
  numbered = λ t. c.requires.planned.1.numbered Types t ∙ ap (λ ps. place_in ps t) c.requires.planned.1.lists.types;
  indexed = no_type_lacks c.args.parts c.requires.there (index_of c.args.indices.now) (places c.requires.planned.0.plan) c.requires.planned.1.is_plan c.requires.planned.1.numbered;
}

pub returns-in_err-types-clause-refused : goal.returns-in_err-types-clause-refused
returns-in_err-types-clause-refused c = λ choices follow.
    let p = err_from_is_err_and c.from_residual.result c.from_residual.ensures.1 in
    rw (p.1, p.2) (types_refused c.args.parts (task choices (index_of c.args.indices.now) (map custom_record c.args.own.now)) Raw _ c.in_err-types.ensures.fails)

pub raw_imports-requires : goal.raw_imports-requires
raw_imports-requires c = record {
  live = imports_live (parts_view c.args.parts) c.requires.there;
  indexed = imports_indexed (index_of c.args.indices.now) c.args.parts (written_indexed (index_of c.args.indices.now) (places c.requires.planned.0.plan) (parts_view c.args.parts) c.requires.planned.1.numbered c.requires.planned.1.is_plan c.requires.there);
}

pub returns-in_err-imports-clause-refused : goal.returns-in_err-imports-clause-refused
returns-in_err-imports-clause-refused c = λ choices follow.
    let p = err_from_is_err_and c.from_residual-in_err-imports.result c.from_residual-in_err-imports.ensures.1 in
    rw (p.1, p.2) (imports_refused c.args.parts (task choices (index_of c.args.indices.now) (map custom_record c.args.own.now)) Raw _ c.in_err-imports.ensures.fails)

pub raw_tables-requires : goal.raw_tables-requires
raw_tables-requires c = record {
  indexed = own_indexed (λ (t : TableValue). t.imported_by) (λ t. named_table (index_of c.args.indices.now) (table_of t)) (items (tables c.args.parts.tables.now))
      (tables_indexed c.args.parts c.requires.there (index_of c.args.indices.now) (places c.requires.planned.0.plan) c.requires.planned.1.is_plan c.requires.planned.1.numbered);
}

pub returns-in_err-tables-clause-refused : goal.returns-in_err-tables-clause-refused
returns-in_err-tables-clause-refused c = λ choices follow.
    let p = err_from_is_err_and c.from_residual-in_err-tables.result c.from_residual-in_err-tables.ensures.1 in
    rw (p.1, p.2) (tables_refused c.args.parts (task choices (index_of c.args.indices.now) (map custom_record c.args.own.now)) Raw _ c.in_err-tables.ensures.fails)

pub raw_globals-requires : goal.raw_globals-requires
raw_globals-requires c = record {
  indexed = own_indexed (λ (g : GlobalValue). g.imported_by) (λ g. named_global (index_of c.args.indices.now) (global_of g)) (items (globals c.args.parts.globals.now))
      (globals_indexed c.args.parts c.requires.there (index_of c.args.indices.now) (places c.requires.planned.0.plan) c.requires.planned.1.is_plan c.requires.planned.1.numbered);
}

pub returns-in_err-globals-clause-refused : goal.returns-in_err-globals-clause-refused
returns-in_err-globals-clause-refused c = λ choices follow.
    let p = err_from_is_err_and c.from_residual-in_err-globals.result c.from_residual-in_err-globals.ensures.1 in
    rw (p.1, p.2) (globals_refused c.args.parts (task choices (index_of c.args.indices.now) (map custom_record c.args.own.now)) Raw _ c.in_err-globals.ensures.fails)

pub raw_tags-requires : goal.raw_tags-requires
raw_tags-requires c = record {
  indexed = own_indexed (λ (t : TagValue). t.imported_by) (λ t. tag_index (index_of c.args.indices.now) (tag_of t)) (items (tags c.args.parts.tags.now))
      (tags_indexed c.args.parts c.requires.there (index_of c.args.indices.now) (places c.requires.planned.0.plan) c.requires.planned.1.is_plan c.requires.planned.1.numbered);
}

pub raw_exports-requires : goal.raw_exports-requires
raw_exports-requires c = record {
  indexed = exports_indexed c.args.parts c.requires.there (index_of c.args.indices.now) (places c.requires.planned.0.plan) c.requires.planned.1.is_plan c.requires.planned.1.numbered;
}

pub raw_elements-requires : goal.raw_elements-requires
raw_elements-requires c = record {
  indexed = elements_indexed c.args.parts c.requires.there (index_of c.args.indices.now) (places c.requires.planned.0.plan) c.requires.planned.1.is_plan c.requires.planned.1.numbered;
}

pub returns-in_err-elements-clause-refused : goal.returns-in_err-elements-clause-refused
returns-in_err-elements-clause-refused c = λ choices follow.
    let p = err_from_is_err_and c.from_residual-in_err-elements.result c.from_residual-in_err-elements.ensures.1 in
    rw (p.1, p.2) (elements_refused c.args.parts (task choices (index_of c.args.indices.now) (map custom_record c.args.own.now)) Raw _ c.in_err-elements.ensures.fails)

pub raw_data-requires : goal.raw_data-requires
raw_data-requires c = record {
  indexed = data_indexed c.args.parts c.requires.there (index_of c.args.indices.now) (places c.requires.planned.0.plan) c.requires.planned.1.is_plan c.requires.planned.1.numbered;
}

pub returns-in_err-data_segments-clause-refused : goal.returns-in_err-data_segments-clause-refused
returns-in_err-data_segments-clause-refused c = λ choices follow.
    let p = err_from_is_err_and c.from_residual-in_err-data_segments.result c.from_residual-in_err-data_segments.ensures.1 in
    rw (p.1, p.2) (data_refused c.args.parts (task choices (index_of c.args.indices.now) (map custom_record c.args.own.now)) Raw _ c.in_err-data_segments.ensures.fails)

pub returns-then-is_none-clause-refused : goal.returns-then-is_none-clause-refused
returns-then-is_none-clause-refused c = λ choices follow.
    let names = index_of c.args.indices.now in
    let plan = follow.planned in
    let producers = chosen_producers c.args.parts choices in
    let said = if_chosen choices.names (names_said c.args.parts (places follow.prepared.plan) (first_own follow.prepared.plan) (map (λ (b : BodySeen). b.used) follow.are_made.0)) in
    payloads_refused c.args.parts (task choices (index_of c.args.indices.now) (map custom_record c.args.own.now)) names refl follow.prepared.plan (map group c.in_ok-types.types.items) c.in_ok-imports.imports.items c.args.functions.items c.in_ok-tables.tables.items c.in_ok-memories.memories.items c.in_ok-tags.tags.items c.in_ok-globals.globals.items c.in_ok-exports.exports.items follow.are_made.0 c.in_ok-elements.elements.items c.in_ok-data_segments.data_segments.items c.args.count
    plan.matched plan.reads plan.is_plan plan.numbered plan.few
    plan.lists.types plan.lists.brought plan.lists.tables plan.lists.memories plan.lists.tags plan.lists.globals
    c.in_ok-types.ensures.value c.in_ok-imports.ensures.value
    follow.functions_are
    c.in_ok-tables.ensures.value c.in_ok-tables.ensures.stand c.in_ok-tables.ensures.spelled
    c.in_ok-memories.ensures.value c.in_ok-memories.ensures.stand c.in_ok-tags.ensures.value
    c.in_ok-globals.ensures.value c.in_ok-globals.ensures.stand c.in_ok-globals.ensures.spelled
    c.in_ok-exports.ensures.value c.in_ok-exports.ensures.text
    c.raw_start-start.result (ap (option_map (λ (i : ℕ). Some i)) c.raw_start-start.ensures ∙ start_indexed c.args.parts c.requires.there names (places follow.prepared.plan) plan.is_plan plan.numbered)
    follow.are_made.1.0
    plan.lists.elements c.in_ok-elements.ensures.value c.in_ok-elements.ensures.stand c.in_ok-elements.ensures.chosen c.in_ok-elements.ensures.spelled
    plan.lists.data_segments c.in_ok-data_segments.ensures.value c.in_ok-data_segments.ensures.stand c.in_ok-data_segments.ensures.spelled plan.data_count
    Raw (sections_refused said producers c.args.made.now.payloads (c.is_none.ensures ∙ ap not c.if-is_none.true) follow.are_made.1.2)

pub returns-clause-records : goal.returns-clause-records
returns-clause-records c = λ choices follow.
    let names = index_of c.args.indices.now in
    let plan = follow.planned in
    let producers = chosen_producers c.args.parts choices in
    let said = if_chosen choices.names (names_said c.args.parts (places follow.prepared.plan) (first_own follow.prepared.plan) (map (λ (b : BodySeen). b.used) follow.are_made.0)) in
    records_made c.args.parts (task choices (index_of c.args.indices.now) (map custom_record c.args.own.now)) names refl follow.prepared.plan (map group c.in_ok-types.types.items) c.in_ok-imports.imports.items c.args.functions.items c.in_ok-tables.tables.items c.in_ok-memories.memories.items c.in_ok-tags.tags.items c.in_ok-globals.globals.items c.in_ok-exports.exports.items follow.are_made.0 c.in_ok-elements.elements.items c.in_ok-data_segments.data_segments.items c.args.count
    plan.matched plan.reads plan.is_plan plan.numbered plan.few
    plan.lists.types plan.lists.brought plan.lists.tables plan.lists.memories plan.lists.tags plan.lists.globals
    c.in_ok-types.ensures.value c.in_ok-imports.ensures.value
    follow.functions_are
    c.in_ok-tables.ensures.value c.in_ok-tables.ensures.stand c.in_ok-tables.ensures.spelled
    c.in_ok-memories.ensures.value c.in_ok-memories.ensures.stand c.in_ok-tags.ensures.value
    c.in_ok-globals.ensures.value c.in_ok-globals.ensures.stand c.in_ok-globals.ensures.spelled
    c.in_ok-exports.ensures.value c.in_ok-exports.ensures.text
    c.raw_start-start.result (ap (option_map (λ (i : ℕ). Some i)) c.raw_start-start.ensures ∙ start_indexed c.args.parts c.requires.there names (places follow.prepared.plan) plan.is_plan plan.numbered)
    follow.are_made.1.0
    plan.lists.elements c.in_ok-elements.ensures.value c.in_ok-elements.ensures.stand c.in_ok-elements.ensures.chosen c.in_ok-elements.ensures.spelled
    plan.lists.data_segments c.in_ok-data_segments.ensures.value c.in_ok-data_segments.ensures.stand c.in_ok-data_segments.ensures.spelled plan.data_count
    _ _ _ c.new.ensures.items (c.in_ok-code.ensures.value ∙ ap (map unplaced) follow.are_made.1.1)
    (c.in_ok-customs.ensures.value ∙ ap (λ l. map custom_record c.args.own.now ++ l) (sections_given said producers c.args.made.now.payloads (c.is_none.ensures ∙ ap not c.if-is_none.false) follow.are_made.1.2))
