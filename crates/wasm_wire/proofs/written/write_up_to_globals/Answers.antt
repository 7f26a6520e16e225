use Rattle.std.proofs.Common.{ℕ, List, ◌++◌, map, ap}
use Rattle.wasm_entries.specs.Record.{group, import_entry, table_entry, global_entry}
use Rattle.wasm_frames.specs.Record.{Module, sections}
use Rattle.wasm_frames.specs.Frames.{Section, Types, Imports, Functions, Tables, Memories, Globals, Tags}
use Rattle.wasm_writer.specs.Writing.{written}
use Rattle.wasm_wire.specs.ModuleSpelling.{if_any}
use Rattle.wasm_wire.proofs.ModuleWritten.{listed_first, listed_grown, listed_last}
use Rattle.wasm_wire.proofs.written.write_up_to_globals.Goals as goal

pub returns : goal.returns
returns c =
    let m : Module = sections c.args.raw.now in
    let old : List ℕ = written c.args.writer.now in
    let d1 : List Section = if_any Types m.types in
    let h1 = listed_first old (written c.type_section.new.self) Types _ m.types (ap (map group) c.deref.ensures.value) c.in_ok-type_section.ensures.appends.0 in
    let h2 = listed_grown old _ (written c.import_section.new.self) d1 Imports _ m.imports (ap (map import_entry) c.deref-2.ensures.value) h1 c.in_ok-import_section.ensures.appends.0 in
    let d2 : List Section = d1 ++ if_any Imports m.imports in
    let h3 = listed_grown old _ (written c.function_section.new.self) d2 Functions _ m.functions c.deref-3.ensures.value h2 c.in_ok-function_section.ensures.appends.0 in
    let d3 : List Section = d2 ++ if_any Functions m.functions in
    let h4 = listed_grown old _ (written c.table_section.new.self) d3 Tables _ m.tables (ap (map table_entry) c.deref-4.ensures.value) h3 c.in_ok-table_section.ensures.appends.0 in
    let d4 : List Section = d3 ++ if_any Tables m.tables in
    let h5 = listed_grown old _ (written c.memory_section.new.self) d4 Memories _ m.memories c.deref-5.ensures.value h4 c.in_ok-memory_section.ensures.appends.0 in
    let d5 : List Section = d4 ++ if_any Memories m.memories in
    let h6 = listed_grown old _ (written c.tag_section.new.self) d5 Tags _ m.tags c.deref-6.ensures.value h5 c.in_ok-tag_section.ensures.appends.0 in
    let d6 : List Section = d5 ++ if_any Tags m.tags in
    listed_last c.global_section.result old _ (written c.global_section.new.self) d6 Globals _ m.globals (ap (map global_entry) c.deref-7.ensures.value) h6 c.requires.fits.globals c.global_section.ensures.appends
