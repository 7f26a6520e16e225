use Rattle.std.proofs.Common.{ℕ, map, refl, arith}
use Rattle.std.proofs.lemmas.List.{length-map}
use Rattle.wasm_entries.specs.Record.{import_entry, table_entry, global_entry, export_entry, element_entry, data_entry}
use Rattle.wasm_entries.specs.Spelling.{import_bytes, table_bytes, global_bytes, export_bytes, element_bytes, data_bytes, ImportFits, TableFits, ExportFits, ElementFits, DataFits}
use Rattle.wasm_entries.specs.declared.record.RawImport.{RawImport}
use Rattle.wasm_entries.specs.declared.record.RawTable.{RawTable}
use Rattle.wasm_entries.specs.declared.record.RawGlobal.{RawGlobal}
use Rattle.wasm_entries.specs.declared.record.RawExport.{RawExport}
use Rattle.wasm_entries.specs.declared.record.RawElement.{RawElement}
use Rattle.wasm_entries.specs.declared.record.RawData.{RawData}
use Rattle.wasm_forms.proofs.Adding.{fits_map, fits_unmap, fits_free}
use Rattle.wasm_forms.specs.Spelling.{number_bytes, vector_bytes}
use Rattle.wasm_forms.specs.Writing.{FitsLength, FitsVector}
use Rattle.wasm_writer.proofs.Groups.{measures_as}
use Rattle.wasm_frames.specs.Frames.{Imports, Functions, Tables, Globals, Exports, Elements, DataSegments}
use Rattle.wasm_writer.proofs.MeasuredSections.{measures_held, of_one}
use Rattle.wasm_writer.proofs.measuring.content_len.Goals as goal

pub returns-in-Imports : goal.returns-in-Imports
returns-in-Imports c =
    let xs = c.in-Imports.imports.now in
    of_one c.args.section.now _ (Imports (map import_entry xs)) c.measured_vector.result c.in-Imports.is (λ s h. h)
    (measures_held import_entry import_bytes (λ (x : RawImport). ImportFits (import_entry x)) (FitsVector ImportFits (map import_entry xs)) xs c.measured_vector.result (fits_map import_entry ImportFits xs) (fits_unmap import_entry ImportFits xs) c.measured_vector.ensures)

pub returns-in-Functions : goal.returns-in-Functions
returns-in-Functions c =
    let xs = c.in-Functions.functions.now in
    of_one c.args.section.now _ (Functions xs) c.measured_vector-in-Functions.result c.in-Functions.is (λ s h. h)
    (measures_as c.measured_vector-in-Functions.result (vector_bytes number_bytes xs) (vector_bytes number_bytes xs) (FitsVector (λ (n : ℕ). Unit {0}) xs) (FitsLength xs) refl (λ h. h.0) (fits_free xs) c.measured_vector-in-Functions.ensures)

pub returns-in-Tables : goal.returns-in-Tables
returns-in-Tables c =
    let xs = c.in-Tables.tables.now in
    of_one c.args.section.now _ (Tables (map table_entry xs)) c.measured_vector-in-Tables.result c.in-Tables.is (λ s h. h)
    (measures_held table_entry table_bytes (λ (x : RawTable). TableFits (table_entry x)) (FitsVector TableFits (map table_entry xs)) xs c.measured_vector-in-Tables.result (fits_map table_entry TableFits xs) (fits_unmap table_entry TableFits xs) c.measured_vector-in-Tables.ensures)

pub returns-in-Globals : goal.returns-in-Globals
returns-in-Globals c =
    let xs = c.in-Globals.globals.now in
    of_one c.args.section.now _ (Globals (map global_entry xs)) c.measured_vector-in-Globals.result c.in-Globals.is (λ s h. h)
    (measures_held global_entry global_bytes (λ (x : RawGlobal). Unit {0}) (FitsLength (map global_entry xs)) xs c.measured_vector-in-Globals.result (λ h. omega (arith, h.0, length-map xs global_entry))
    (λ h. fits_free xs (omega (arith, h, length-map xs global_entry))) c.measured_vector-in-Globals.ensures)

pub returns-in-Exports : goal.returns-in-Exports
returns-in-Exports c =
    let xs = c.in-Exports.exports.now in
    of_one c.args.section.now _ (Exports (map export_entry xs)) c.measured_vector-in-Exports.result c.in-Exports.is (λ s h. h)
    (measures_held export_entry export_bytes (λ (x : RawExport). ExportFits (export_entry x)) (FitsVector ExportFits (map export_entry xs)) xs c.measured_vector-in-Exports.result (fits_map export_entry ExportFits xs) (fits_unmap export_entry ExportFits xs) c.measured_vector-in-Exports.ensures)

pub returns-in-Elements : goal.returns-in-Elements
returns-in-Elements c =
    let xs = c.in-Elements.elements.now in
    of_one c.args.section.now _ (Elements (map element_entry xs)) c.measured_vector-in-Elements.result c.in-Elements.is (λ s h. h)
    (measures_held element_entry element_bytes (λ (x : RawElement). ElementFits (element_entry x)) (FitsVector ElementFits (map element_entry xs)) xs c.measured_vector-in-Elements.result (fits_map element_entry ElementFits xs) (fits_unmap element_entry ElementFits xs) c.measured_vector-in-Elements.ensures)

pub returns-in-Data : goal.returns-in-Data
returns-in-Data c =
    let xs = c.in-Data.segments.now in
    of_one c.args.section.now _ (DataSegments (map data_entry xs)) c.measured_vector-in-Data.result c.in-Data.is (λ s h. h)
    (measures_held data_entry data_bytes (λ (x : RawData). DataFits (data_entry x)) (FitsVector DataFits (map data_entry xs)) xs c.measured_vector-in-Data.result (fits_map data_entry DataFits xs) (fits_unmap data_entry DataFits xs) c.measured_vector-in-Data.ensures)
