use Rattle.std.proofs.Common.{List, subst, ◌≡◌, length, map, sym, ap, ◌∙◌, []}
use Rattle.std.specs.Prelude.{All, option_and_then}
use Rattle.std.proofs.lemmas.Result.{err_from_is_err_and}
use Rattle.wasm_entries.specs.declared.record.RawData.{RawData}
use Rattle.wasm_entries.specs.declared.record.RawElement.{RawElement}
use Rattle.wasm_entries.specs.declared.record.RawExport.{RawExport}
use Rattle.wasm_entries.specs.declared.record.RawGlobal.{RawGlobal}
use Rattle.wasm_entries.specs.declared.record.RawLimits.{RawLimits}
use Rattle.wasm_entries.specs.declared.record.RawTable.{RawTable}
use Rattle.wasm_entries.specs.Record.{data_entry, element_entry, export_entry, global_entry, table_entry}
use Rattle.wasm_frames.specs.Record.{custom_record, sections}
use Rattle.walrus_base.specs.Operators.{Functions}
use Rattle.walrus_code.specs.Indices.{ids_at}
use Rattle.walrus_items.specs.Data.{data_segments}
use Rattle.walrus_items.specs.Elements.{elements}
use Rattle.walrus_items.specs.Exports.{exports}
use Rattle.walrus_items.specs.Globals.{globals}
use Rattle.walrus_items.specs.Memories.{memories}
use Rattle.walrus_items.specs.Tables.{tables}
use Rattle.walrus_model.specs.Sections.{data_of, element_of, global_of, memory_of, table_of}
use Rattle.walrus_reading.specs.Held.{HoldsData, HoldsElement, HoldsGlobal, HoldsMemory, HoldsTable, none_kept}
use Rattle.walrus_reading.specs.Placed.{AddsPlaced, AllPlaced}
use Rattle.walrus_reading.specs.Stays.{AllStay, DataStays, ElementStays, ExportStays, GlobalStays, TableStays}
use Rattle.walrus_reading.specs.Taken.{HoldsExport}
use Rattle.walrus_reading.proofs.KeptSegments.{data_on_live, elements_on_live, memories_kept, tables_kept}
use Rattle.walrus_reading.proofs.Numbered.{stay}
use Rattle.walrus_reading.proofs.ProducersHeld.{held_of_all}
use Rattle.walrus_reading.proofs.Rest.{same_customs, same_elements, same_exports, same_globals, same_memories, same_segments, same_tables}
use Rattle.walrus_reading.proofs.Rows.{placed_first}
use Rattle.walrus_reading.proofs.TakenSections.{sections_taken}
use Rattle.walrus_contents.specs.declared.parts.Contents.{Contents}
use Rattle.walrus_items.specs.Imports.{imports}
use Rattle.walrus_reading.proofs.FirstUnread.{sections_refused}
use Rattle.walrus_reading.proofs.StillBrought.{memories_still, no_data, no_elements, no_exports, no_producers, tables_still}
use Rattle.walrus_reading.proofs.contents.read_contents.Goals as goal

pub returns-in_err-contents-clause-taken : goal.returns-in_err-contents-clause-taken
returns-in_err-contents-clause-taken g c =
    let p = err_from_is_err_and c.from_residual.result c.from_residual.ensures.1 in
    rw (p.1, p.2) (sections_refused c.args.features.now (sections c.args.raw.now) _ c.in_err-contents.ensures.taken)

pub add_tables-requires : goal.add_tables-requires
add_tables-requires g c =
    let names = ids_at c.read_functions.new.indices in
    let all : AllStay names (sections c.args.raw.now) = stay names (sections c.args.raw.now) c.in_ok-contents.ensures.numbered c.requires.rules.indices in
    record { stay = subst (λ (l : List RawTable). All (TableStays names) (map table_entry l)) (sym (same_tables c.args.raw.now c.read_functions.new.raw c.deref.result.now c.in_ok-contents.ensures.rest c.deref.ensures.value)) all.tables }

pub add_globals-requires : goal.add_globals-requires
add_globals-requires g c =
    let names = ids_at c.read_functions.new.indices in
    let all : AllStay names (sections c.args.raw.now) = stay names (sections c.args.raw.now) c.in_ok-contents.ensures.numbered c.requires.rules.indices in
    record { stay = subst (λ (l : List RawGlobal). All (GlobalStays names) (map global_entry l)) (sym (same_globals c.args.raw.now c.read_functions.new.raw c.deref-3.result.now c.in_ok-contents.ensures.rest c.deref-3.ensures.value)) all.globals }

pub add_elements-requires-clause-stay : goal.add_elements-requires-clause-stay
add_elements-requires-clause-stay g c =
    let names = ids_at c.read_functions.new.indices in
    let all : AllStay names (sections c.args.raw.now) = stay names (sections c.args.raw.now) c.in_ok-contents.ensures.numbered c.requires.rules.indices in
    subst (λ (l : List RawElement). All (ElementStays names) (map element_entry l)) (sym (same_elements c.args.raw.now c.read_functions.new.raw c.deref-4.result.now c.in_ok-contents.ensures.rest c.deref-4.ensures.value)) all.elements

pub add_elements-requires-clause-there : goal.add_elements-requires-clause-there
add_elements-requires-clause-there g c =
    let s = sections c.args.raw.now in
    let b = c.in_ok-contents.contents in
    let names = ids_at c.read_functions.new.indices in
    let all : AllStay names (sections c.args.raw.now) = stay names (sections c.args.raw.now) c.in_ok-contents.ensures.numbered c.requires.rules.indices in
    elements_on_live s (tables b.tables) (tables c.add_tables.new.all) (tables_still c.args.features.now s b _ c.in_ok-contents.ensures.taken)
    (subst (λ (l : List RawTable). AddsPlaced (HoldsTable none_kept) (map table_of (map table_entry l)) (tables b.tables) (tables c.add_tables.new.all)) (same_tables c.args.raw.now c.read_functions.new.raw c.deref.result.now c.in_ok-contents.ensures.rest c.deref.ensures.value) c.in_ok-add_tables.ensures.added)
    names c.in_ok-contents.ensures.numbered (map element_entry c.deref-4.result.now) (ap (map element_entry) (same_elements c.args.raw.now c.read_functions.new.raw c.deref-4.result.now c.in_ok-contents.ensures.rest c.deref-4.ensures.value)) all.elements

pub add_data-requires-clause-stay : goal.add_data-requires-clause-stay
add_data-requires-clause-stay g c =
    let names = ids_at c.read_functions.new.indices in
    let all : AllStay names (sections c.args.raw.now) = stay names (sections c.args.raw.now) c.in_ok-contents.ensures.numbered c.requires.rules.indices in
    subst (λ (l : List RawData). All (DataStays names) (map data_entry l)) (sym (same_segments c.args.raw.now c.read_functions.new.raw c.deref-5.result.now c.in_ok-contents.ensures.rest c.deref-5.ensures.value)) all.data_segments

pub add_data-requires-clause-there : goal.add_data-requires-clause-there
add_data-requires-clause-there g c =
    let s = sections c.args.raw.now in
    let b = c.in_ok-contents.contents in
    let names = ids_at c.read_functions.new.indices in
    let all : AllStay names (sections c.args.raw.now) = stay names (sections c.args.raw.now) c.in_ok-contents.ensures.numbered c.requires.rules.indices in
    data_on_live s (memories b.memories) (memories c.add_memories.new.all) (memories_still c.args.features.now s b _ c.in_ok-contents.ensures.taken)
    (subst (λ (l : List RawLimits). AddsPlaced (HoldsMemory none_kept) (map memory_of l) (memories b.memories) (memories c.add_memories.new.all)) (same_memories c.args.raw.now c.read_functions.new.raw c.deref-2.result.now c.in_ok-contents.ensures.rest c.deref-2.ensures.value) c.in_ok-add_memories.ensures.added)
    names c.in_ok-contents.ensures.numbered (map data_entry c.deref-5.result.now) (ap (map data_entry) (same_segments c.args.raw.now c.read_functions.new.raw c.deref-5.result.now c.in_ok-contents.ensures.rest c.deref-5.ensures.value)) all.data_segments

pub add_exports-requires-clause-none : goal.add_exports-requires-clause-none
add_exports-requires-clause-none g c = no_exports c.args.features.now (sections c.args.raw.now) c.in_ok-contents.contents _ c.in_ok-contents.ensures.taken

pub add_exports-requires-clause-declared : goal.add_exports-requires-clause-declared
add_exports-requires-clause-declared g c =
    let names = ids_at c.read_functions.new.indices in
    let all : AllStay names (sections c.args.raw.now) = stay names (sections c.args.raw.now) c.in_ok-contents.ensures.numbered c.requires.rules.indices in
    subst (λ (l : List RawExport). All (ExportStays names) (map export_entry l)) (sym (same_exports c.args.raw.now c.read_functions.new.raw c.deref-6.result.now c.in_ok-contents.ensures.rest c.deref-6.ensures.value)) all.exports

pub returns-clause-taken : goal.returns-clause-taken
returns-clause-taken g c =
    let s = sections c.args.raw.now in
    let b = c.in_ok-contents.contents in
    let begun = c.in_ok-contents.ensures.taken in
    let names = ids_at c.read_functions.new.indices in
    let all : AllStay names (sections c.args.raw.now) = stay names (sections c.args.raw.now) c.in_ok-contents.ensures.numbered c.requires.rules.indices in
    let still_none : elements b.elements ≡ [] = no_elements c.args.features.now s b _ begun in
    let still_no_data : data_segments b.data_ ≡ [] = no_data c.args.features.now s b _ begun in
    sections_taken c.args.features.now s _ begun.brought begun.begun _ c.requires.rules.as_many_bodies begun.taken (ap (λ (x : Contents). imports x.imports) begun.others)
    (tables_kept s (tables b.tables) (tables c.add_tables.new.all) (tables_still c.args.features.now s b _ begun)
    (subst (λ (l : List RawTable). AddsPlaced (HoldsTable none_kept) (map table_of (map table_entry l)) (tables b.tables) (tables c.add_tables.new.all)) (same_tables c.args.raw.now c.read_functions.new.raw c.deref.result.now c.in_ok-contents.ensures.rest c.deref.ensures.value) c.in_ok-add_tables.ensures.added)
    (length (elements b.elements)) (map element_entry c.deref-4.result.now) (tables c.add_elements.new.within) (ap length still_none) (ap (map element_entry) (same_elements c.args.raw.now c.read_functions.new.raw c.deref-4.result.now c.in_ok-contents.ensures.rest c.deref-4.ensures.value)) c.in_ok-add_elements.ensures.kept)
    (memories_kept s (memories b.memories) (memories c.add_memories.new.all) (memories_still c.args.features.now s b _ begun)
    (subst (λ (l : List RawLimits). AddsPlaced (HoldsMemory none_kept) (map memory_of l) (memories b.memories) (memories c.add_memories.new.all)) (same_memories c.args.raw.now c.read_functions.new.raw c.deref-2.result.now c.in_ok-contents.ensures.rest c.deref-2.ensures.value) c.in_ok-add_memories.ensures.added)
    (length (data_segments b.data_)) (map data_entry c.deref-5.result.now) (memories c.add_data.new.within) (ap length still_no_data) (ap (map data_entry) (same_segments c.args.raw.now c.read_functions.new.raw c.deref-5.result.now c.in_ok-contents.ensures.rest c.deref-5.ensures.value)) c.in_ok-add_data.ensures.kept)
    begun.tags
    (subst (λ (x : Contents). AddsPlaced HoldsGlobal (map global_of s.globals) (globals x.globals) (globals c.add_globals.new.all)) begun.others
    (subst (λ (l : List RawGlobal). AddsPlaced HoldsGlobal (map global_of (map global_entry l)) (globals b.globals) (globals c.add_globals.new.all)) (same_globals c.args.raw.now c.read_functions.new.raw c.deref-3.result.now c.in_ok-contents.ensures.rest c.deref-3.ensures.value) c.in_ok-add_globals.ensures.added))
    (subst (λ (l : List RawExport). AllPlaced HoldsExport 0 (map export_entry l) (exports c.add_exports.new.all)) (same_exports c.args.raw.now c.read_functions.new.raw c.deref-6.result.now c.in_ok-contents.ensures.rest c.deref-6.ensures.value) c.in_ok-add_exports.ensures.added)
    (c.start_named-contents.ensures ∙ ap (option_and_then (names Functions)) c.in_ok-contents.ensures.rest.start ∙ all.start)
    (placed_first HoldsElement (map element_of s.elements) (elements b.elements) (elements c.add_elements.new.all) still_none
    (subst (λ (l : List RawElement). AddsPlaced HoldsElement (map element_of (map element_entry l)) (elements b.elements) (elements c.add_elements.new.all)) (same_elements c.args.raw.now c.read_functions.new.raw c.deref-4.result.now c.in_ok-contents.ensures.rest c.deref-4.ensures.value) c.in_ok-add_elements.ensures.added))
    (placed_first HoldsData (map data_of s.data_segments) (data_segments b.data_) (data_segments c.add_data.new.all) still_no_data
    (subst (λ (l : List RawData). AddsPlaced HoldsData (map data_of (map data_entry l)) (data_segments b.data_) (data_segments c.add_data.new.all)) (same_segments c.args.raw.now c.read_functions.new.raw c.deref-5.result.now c.in_ok-contents.ensures.rest c.deref-5.ensures.value) c.in_ok-add_data.ensures.added))
    (ap (λ (x : Contents). x.name) begun.others)

pub add_producers-requires : goal.add_producers-requires
add_producers-requires g c = record { none = no_producers c.args.features.now (sections c.args.raw.now) c.in_ok-contents.contents _ c.in_ok-contents.ensures.taken }

pub returns-clause-produced : goal.returns-clause-produced
returns-clause-produced g c =
    held_of_all (sections c.args.raw.now) (map custom_record c.deref-7.result.now) c.add_producers.new.made (ap (map custom_record) (same_customs c.args.raw.now c.read_functions.new.raw c.deref-7.result.now c.in_ok-contents.ensures.rest c.deref-7.ensures.value)) c.in_ok-add_producers.ensures.held

pub returns-clause-customs : goal.returns-clause-customs
returns-clause-customs g c = c.in_ok-contents.ensures.rest.customs
