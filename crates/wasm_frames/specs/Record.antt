-- The records of a module without where they lie in memory.
use Rattle.std.specs.Prelude.{ℕ, List, [], map, Option, None}
use Rattle.wasm_entries.specs.declared.record.RawLimits.{RawLimits}
use Rattle.wasm_entries.specs.Record.{Group, Import, Table, Global, Export, Element, Segment, group, import_entry, table_entry, global_entry, export_entry, element_entry, data_entry}
use Rattle.wasm_frames.specs.declared.record.RawBody.{RawBody}
use Rattle.wasm_frames.specs.declared.record.RawCustom.{RawCustom}
use Rattle.wasm_frames.specs.declared.record.Raw.{Raw}

-- a function's body: its bytes, and the place of the first of them in the input
pub record Body : Type 0 where
  pub start : ℕ
  pub bytes : List ℕ

-- a custom section: its name, and the bytes behind that
pub record Custom : Type 0 where
  pub name : List ℕ
  pub bytes : List ℕ

-- what the sections of a module hold, and the ids of those that aren't custom as they stand (Binary Format > Modules)
pub record Module : Type 0 where
  pub order : List ℕ
  pub types : List Group
  pub imports : List Import
  pub functions : List ℕ
  pub tables : List Table
  pub memories : List RawLimits
  pub tags : List ℕ
  pub globals : List Global
  pub exports : List Export
  pub start : Option ℕ
  pub elements : List Element
  pub data_count : Option ℕ
  pub bodies : List Body
  pub data_segments : List Segment
  pub customs : List Custom

-- a module without sections
abbrev pub no_sections : Module
no_sections = record {
  order = [];
  types = [];
  imports = [];
  functions = [];
  tables = [];
  memories = [];
  tags = [];
  globals = [];
  exports = [];
  start = None;
  elements = [];
  data_count = None;
  bodies = [];
  data_segments = [];
  customs = [];
}

-- what the records in memory hold

abbrev pub body_record : RawBody → Body
body_record b = record { start = b.start; bytes = b.bytes.now }

abbrev pub custom_record : RawCustom → Custom
custom_record c = record { name = c.name.now; bytes = c.bytes.now }

abbrev pub sections : Raw → Module
sections r = record {
  order = r.order.items;
  types = map group r.types.items;
  imports = map import_entry r.imports.items;
  functions = r.functions.items;
  tables = map table_entry r.tables.items;
  memories = r.memories.items;
  tags = r.tags.items;
  globals = map global_entry r.globals.items;
  exports = map export_entry r.exports.items;
  start = r.start;
  elements = map element_entry r.elements.items;
  data_count = r.data_count;
  bodies = map body_record r.bodies.items;
  data_segments = map data_entry r.data_.items;
  customs = map custom_record r.customs.items;
}
