use Rattle.std.proofs.Common.{◌≡◌, ℕ, ◌+◌, List, [], ◌++◌, length, map, refl, ◌∙◌, arith}
use Rattle.std.specs.Prelude.{Ok, Err, IfSome}
use Rattle.std.proofs.lemmas.List.Elements.{All-nil}
use Rattle.wasm_entries.specs.declared.record.RawImport.{RawImport}
use Rattle.wasm_entries.specs.declared.record.RawTable.{RawTable}
use Rattle.wasm_entries.specs.declared.record.RawLimits.{RawLimits}
use Rattle.wasm_entries.specs.declared.record.RawGlobal.{RawGlobal}
use Rattle.wasm_entries.specs.declared.record.RawExport.{RawExport}
use Rattle.wasm_entries.specs.declared.record.RawElement.{RawElement}
use Rattle.wasm_entries.specs.Record.{group, import_entry, table_entry, global_entry, export_entry, element_entry}
use Rattle.wasm_frames.specs.Record.{Module, sections}
use Rattle.wasm_frames.specs.Frames.{Section, Types, Imports, Functions, Tables, Memories, Globals, Exports, Start, Elements, Tags, DataCount}
use Rattle.wasm_writer.specs.Spelling.{all_spelled, SectionFits}
use Rattle.wasm_wire.specs.ModuleSpelling.{if_any, if_given, before_code, ModuleFits}
use Rattle.wasm_wire.specs.ModuleWriting.{front_of}
use Rattle.wasm_wire.proofs.ModuleMeasured.{told_len, more_len, told_of, part_untold, section_untold, code_fits, data_fits}
use Rattle.wasm_wire.proofs.written.before_code_len.Goals as goal

pub returns-in_err-types : goal.returns-in_err-types
returns-in_err-types c = section_untold c.from_residual.result c.in_err-types.field-0.0 (Types (map group c.args.raw.now.types.items)) (length (all_spelled (before_code (sections c.args.raw.now)))) (ModuleFits (front_of (sections c.args.raw.now))) (λ f. f.types) (told_of (Err c.in_err-types.field-0.0) (λ l. Types (map group l)) _ _ c.deref.ensures.value (c.in_err-types.ensures (Types (map group c.deref.result.now)) refl)) c.from_residual.ensures.1

pub returns-in_err-imports : goal.returns-in_err-imports
returns-in_err-imports c = section_untold c.from_residual-in_err-imports.result c.in_err-imports.field-0.0 (Imports (map import_entry c.args.raw.now.imports.items)) (length (all_spelled (before_code (sections c.args.raw.now)))) (ModuleFits (front_of (sections c.args.raw.now))) (λ f. f.imports) (told_of (Err c.in_err-imports.field-0.0) (λ (l : List RawImport). Imports (map import_entry l)) _ _ c.deref-2.ensures.value (c.in_err-imports.ensures (Imports (map import_entry c.deref-2.result.now)) refl)) c.from_residual-in_err-imports.ensures.1

pub returns-in_err-functions : goal.returns-in_err-functions
returns-in_err-functions c = section_untold c.from_residual-in_err-functions.result c.in_err-functions.field-0.0 (Functions c.args.raw.now.functions.items) (length (all_spelled (before_code (sections c.args.raw.now)))) (ModuleFits (front_of (sections c.args.raw.now))) (λ f. f.functions) (told_of (Err c.in_err-functions.field-0.0) (λ (l : List ℕ). Functions l) _ _ c.deref-3.ensures.value (c.in_err-functions.ensures (Functions c.deref-3.result.now) refl)) c.from_residual-in_err-functions.ensures.1

pub returns-in_err-tables : goal.returns-in_err-tables
returns-in_err-tables c = section_untold c.from_residual-in_err-tables.result c.in_err-tables.field-0.0 (Tables (map table_entry c.args.raw.now.tables.items)) (length (all_spelled (before_code (sections c.args.raw.now)))) (ModuleFits (front_of (sections c.args.raw.now))) (λ f. f.tables) (told_of (Err c.in_err-tables.field-0.0) (λ (l : List RawTable). Tables (map table_entry l)) _ _ c.deref-4.ensures.value (c.in_err-tables.ensures (Tables (map table_entry c.deref-4.result.now)) refl)) c.from_residual-in_err-tables.ensures.1

pub returns-in_err-memories : goal.returns-in_err-memories
returns-in_err-memories c = section_untold c.from_residual-in_err-memories.result c.in_err-memories.field-0.0 (Memories c.args.raw.now.memories.items) (length (all_spelled (before_code (sections c.args.raw.now)))) (ModuleFits (front_of (sections c.args.raw.now))) (λ f. f.memories) (told_of (Err c.in_err-memories.field-0.0) (λ (l : List RawLimits). Memories l) _ _ c.deref-5.ensures.value (c.in_err-memories.ensures (Memories c.deref-5.result.now) refl)) c.from_residual-in_err-memories.ensures.1

pub returns-in_err-tags : goal.returns-in_err-tags
returns-in_err-tags c = section_untold c.from_residual-in_err-tags.result c.in_err-tags.field-0.0 (Tags c.args.raw.now.tags.items) (length (all_spelled (before_code (sections c.args.raw.now)))) (ModuleFits (front_of (sections c.args.raw.now))) (λ f. f.tags) (told_of (Err c.in_err-tags.field-0.0) (λ (l : List ℕ). Tags l) _ _ c.deref-6.ensures.value (c.in_err-tags.ensures (Tags c.deref-6.result.now) refl)) c.from_residual-in_err-tags.ensures.1

pub returns-in_err-globals : goal.returns-in_err-globals
returns-in_err-globals c = section_untold c.from_residual-in_err-globals.result c.in_err-globals.field-0.0 (Globals (map global_entry c.args.raw.now.globals.items)) (length (all_spelled (before_code (sections c.args.raw.now)))) (ModuleFits (front_of (sections c.args.raw.now))) (λ f. f.globals) (told_of (Err c.in_err-globals.field-0.0) (λ (l : List RawGlobal). Globals (map global_entry l)) _ _ c.deref-7.ensures.value (c.in_err-globals.ensures (Globals (map global_entry c.deref-7.result.now)) refl)) c.from_residual-in_err-globals.ensures.1

pub returns-in_err-exports : goal.returns-in_err-exports
returns-in_err-exports c = section_untold c.from_residual-in_err-exports.result c.in_err-exports.field-0.0 (Exports (map export_entry c.args.raw.now.exports.items)) (length (all_spelled (before_code (sections c.args.raw.now)))) (ModuleFits (front_of (sections c.args.raw.now))) (λ f. f.exports) (told_of (Err c.in_err-exports.field-0.0) (λ (l : List RawExport). Exports (map export_entry l)) _ _ c.deref-8.ensures.value (c.in_err-exports.ensures (Exports (map export_entry c.deref-8.result.now)) refl)) c.from_residual-in_err-exports.ensures.1

pub returns-in_err-start : goal.returns-in_err-start
returns-in_err-start c = part_untold c.from_residual-in_err-start.result c.in_err-start.field-0.0 (length (all_spelled (if_given Start c.args.raw.now.start))) (length (all_spelled (before_code (sections c.args.raw.now)))) (IfSome c.args.raw.now.start (λ n. SectionFits (Start n))) (ModuleFits (front_of (sections c.args.raw.now))) (λ f. f.start) c.in_err-start.ensures c.from_residual-in_err-start.ensures.1

pub returns-in_err-elements : goal.returns-in_err-elements
returns-in_err-elements c = section_untold c.from_residual-in_err-elements.result c.in_err-elements.field-0.0 (Elements (map element_entry c.args.raw.now.elements.items)) (length (all_spelled (before_code (sections c.args.raw.now)))) (ModuleFits (front_of (sections c.args.raw.now))) (λ f. f.elements) (told_of (Err c.in_err-elements.field-0.0) (λ (l : List RawElement). Elements (map element_entry l)) _ _ c.deref-9.ensures.value (c.in_err-elements.ensures (Elements (map element_entry c.deref-9.result.now)) refl)) c.from_residual-in_err-elements.ensures.1

pub returns-in_err-data_count : goal.returns-in_err-data_count
returns-in_err-data_count c = part_untold c.from_residual-in_err-data_count.result c.in_err-data_count.field-0.0 (length (all_spelled (if_given DataCount c.args.raw.now.data_count))) (length (all_spelled (before_code (sections c.args.raw.now)))) (IfSome c.args.raw.now.data_count (λ n. SectionFits (DataCount n))) (ModuleFits (front_of (sections c.args.raw.now))) (λ f. f.data_count) c.in_err-data_count.ensures c.from_residual-in_err-data_count.ensures.1

pub returns : goal.returns
returns c =
    let m : Module = sections c.args.raw.now in
    let types = told_of (Ok c.in_ok-types.types) (λ l. Types (map group l)) _ _ c.deref.ensures.value (c.in_ok-types.ensures (Types (map group c.deref.result.now)) refl) in
    let imports = told_of (Ok c.in_ok-imports.imports) (λ (l : List RawImport). Imports (map import_entry l)) _ _ c.deref-2.ensures.value (c.in_ok-imports.ensures (Imports (map import_entry c.deref-2.result.now)) refl) in
    let functions = told_of (Ok c.in_ok-functions.functions) (λ (l : List ℕ). Functions l) _ _ c.deref-3.ensures.value (c.in_ok-functions.ensures (Functions c.deref-3.result.now) refl) in
    let tables = told_of (Ok c.in_ok-tables.tables) (λ (l : List RawTable). Tables (map table_entry l)) _ _ c.deref-4.ensures.value (c.in_ok-tables.ensures (Tables (map table_entry c.deref-4.result.now)) refl) in
    let memories = told_of (Ok c.in_ok-memories.memories) (λ (l : List RawLimits). Memories l) _ _ c.deref-5.ensures.value (c.in_ok-memories.ensures (Memories c.deref-5.result.now) refl) in
    let tags = told_of (Ok c.in_ok-tags.tags) (λ (l : List ℕ). Tags l) _ _ c.deref-6.ensures.value (c.in_ok-tags.ensures (Tags c.deref-6.result.now) refl) in
    let globals = told_of (Ok c.in_ok-globals.globals) (λ (l : List RawGlobal). Globals (map global_entry l)) _ _ c.deref-7.ensures.value (c.in_ok-globals.ensures (Globals (map global_entry c.deref-7.result.now)) refl) in
    let exports = told_of (Ok c.in_ok-exports.exports) (λ (l : List RawExport). Exports (map export_entry l)) _ _ c.deref-8.ensures.value (c.in_ok-exports.ensures (Exports (map export_entry c.deref-8.result.now)) refl) in
    let elements = told_of (Ok c.in_ok-elements.elements) (λ (l : List RawElement). Elements (map element_entry l)) _ _ c.deref-9.ensures.value (c.in_ok-elements.ensures (Elements (map element_entry c.deref-9.result.now)) refl) in (
      λ low.
          let s : c.total_len.result ≡ 0 + c.in_ok-types.types + c.in_ok-imports.imports + c.in_ok-functions.functions + c.in_ok-tables.tables + c.in_ok-memories.memories + c.in_ok-tags.tags + c.in_ok-globals.globals + c.in_ok-exports.exports + c.in_ok-start.start + c.in_ok-elements.elements + c.in_ok-data_count.data_count = c.total_len.ensures low in
          let h1 = more_len 0 c.in_ok-types.types [] (if_any Types m.types) refl (told_len c.in_ok-types.types Types m.types types.0) in
          let d1 : List Section = if_any Types m.types in
          let h2 = more_len _ c.in_ok-imports.imports d1 (if_any Imports m.imports) h1 (told_len c.in_ok-imports.imports Imports m.imports imports.0) in
          let d2 : List Section = d1 ++ if_any Imports m.imports in
          let h3 = more_len _ c.in_ok-functions.functions d2 (if_any Functions m.functions) h2 (told_len c.in_ok-functions.functions Functions m.functions functions.0) in
          let d3 : List Section = d2 ++ if_any Functions m.functions in
          let h4 = more_len _ c.in_ok-tables.tables d3 (if_any Tables m.tables) h3 (told_len c.in_ok-tables.tables Tables m.tables tables.0) in
          let d4 : List Section = d3 ++ if_any Tables m.tables in
          let h5 = more_len _ c.in_ok-memories.memories d4 (if_any Memories m.memories) h4 (told_len c.in_ok-memories.memories Memories m.memories memories.0) in
          let d5 : List Section = d4 ++ if_any Memories m.memories in
          let h6 = more_len _ c.in_ok-tags.tags d5 (if_any Tags m.tags) h5 (told_len c.in_ok-tags.tags Tags m.tags tags.0) in
          let d6 : List Section = d5 ++ if_any Tags m.tags in
          let h7 = more_len _ c.in_ok-globals.globals d6 (if_any Globals m.globals) h6 (told_len c.in_ok-globals.globals Globals m.globals globals.0) in
          let d7 : List Section = d6 ++ if_any Globals m.globals in
          let h8 = more_len _ c.in_ok-exports.exports d7 (if_any Exports m.exports) h7 (told_len c.in_ok-exports.exports Exports m.exports exports.0) in
          let d8 : List Section = d7 ++ if_any Exports m.exports in
          let h9 = more_len _ c.in_ok-start.start d8 (if_given Start m.start) h8 (c.in_ok-start.ensures.0 (omega (arith, s, low))) in
          let d9 : List Section = d8 ++ if_given Start m.start in
          let h10 = more_len _ c.in_ok-elements.elements d9 (if_any Elements m.elements) h9 (told_len c.in_ok-elements.elements Elements m.elements elements.0) in
          let d10 : List Section = d9 ++ if_any Elements m.elements in
          let h11 = more_len _ c.in_ok-data_count.data_count d10 (if_given DataCount m.data_count) h10 (c.in_ok-data_count.ensures.0 (omega (arith, s, low))) in
          s ∙ h11,
      record {
        types = types.1;
        imports = imports.1;
        functions = functions.1;
        tables = tables.1;
        memories = memories.1;
        tags = tags.1;
        globals = globals.1;
        exports = exports.1;
        start = c.in_ok-start.ensures.1;
        elements = elements.1;
        data_count = c.in_ok-data_count.ensures.1;
        bodies = code_fits;
        data_segments = data_fits;
        customs = All-nil _;
      },
    )
