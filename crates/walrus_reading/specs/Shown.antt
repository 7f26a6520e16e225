-- What a module holds, with the names of its items as bytes.
use Rattle.std.specs.Prelude.{ℕ, List, [], Option, None, map, option_map, ◌≡◌}
use Rattle.walrus_base.specs.declared.id.Id.{Id}
use Rattle.walrus_base.specs.declared.keys.FunctionKey.{FunctionKey}
use Rattle.walrus_base.specs.Locals.{locals, local_place, local_type}
use Rattle.walrus_base.specs.ModuleTypes.{type_names, type_slots}
use Rattle.walrus_base.specs.TypeDef.{TypeDef, name_bytes}
use Rattle.walrus_base.specs.declared.value.ValType.{ValType}
use Rattle.walrus_base.specs.declared.locals.Local.{Local}
use Rattle.walrus_base.specs.declared.locals.ModuleLocals.{ModuleLocals}
use Rattle.walrus_items.specs.Data.{DataValue, data_segments}
use Rattle.walrus_items.specs.Elements.{ElementValue, elements}
use Rattle.walrus_items.specs.Exports.{ModuleExports}
use Rattle.walrus_items.specs.Functions.{FunctionValue, functions}
use Rattle.walrus_items.specs.Globals.{GlobalValue, globals}
use Rattle.walrus_items.specs.Imports.{ModuleImports}
use Rattle.walrus_items.specs.Memories.{MemoryValue, memories}
use Rattle.walrus_items.specs.Tables.{TableValue, tables}
use Rattle.walrus_items.specs.Tags.{TagValue, tags}
use Rattle.walrus_producers.specs.declared.producers.ModuleProducers.{ModuleProducers}
use Rattle.walrus_model.specs.Abstract.{Name}
use Rattle.walrus_contents.specs.declared.parts.Contents.{Contents}
use Rattle.walrus_reading.specs.Renamed.{nameless}

-- the place of a local's own id, its type, and the bytes of its name
pub record LocalValue : Type 0 where
  pub id : ℕ
  pub ty : ValType
  pub name : Option Name

abbrev pub local_value : Local → LocalValue
local_value local = record { id = local_place local; ty = local_type local; name = name_bytes local.name }

-- the local or nothing at each place from 0 on
abbrev pub local_values : ModuleLocals → List (Option LocalValue)
local_values all = map (option_map local_value) (locals all)

-- the items of each kind by their places, and the rest as it is
pub record Shown : Type 0 where
  pub types : List (Option TypeDef)
  pub type_names : List (Option (Option Name))
  pub functions : List (Option FunctionValue)
  pub tables : List (Option TableValue)
  pub memories : List (Option MemoryValue)
  pub tags : List (Option TagValue)
  pub globals : List (Option GlobalValue)
  pub elements : List (Option ElementValue)
  pub data_segments : List (Option DataValue)
  pub locals : List (Option LocalValue)
  pub name : Option Name
  pub imports : ModuleImports
  pub exports : ModuleExports
  pub start : Option (Id FunctionKey)
  pub producers : ModuleProducers

abbrev pub shown : Contents → Shown
shown c = record {
  types = type_slots c.types;
  type_names = type_names c.types;
  functions = functions c.funcs;
  tables = tables c.tables;
  memories = memories c.memories;
  tags = tags c.tags;
  globals = globals c.globals;
  elements = elements c.elements;
  data_segments = data_segments c.data_;
  locals = local_values c.locals;
  name = name_bytes c.name;
  imports = c.imports;
  exports = c.exports;
  start = c.start;
  producers = c.producers;
}

-- ---- an item with what becomes of its name

abbrev pub mend_type_name : (Option Name → Option Name) → Option Name → Option Name
mend_type_name becomes name = becomes name

abbrev pub mend_function : (Option Name → Option Name) → FunctionValue → FunctionValue
mend_function becomes f = record f { name = becomes f.name }

abbrev pub mend_table : (Option Name → Option Name) → TableValue → TableValue
mend_table becomes t = record t { name = becomes t.name }

abbrev pub mend_memory : (Option Name → Option Name) → MemoryValue → MemoryValue
mend_memory becomes m = record m { name = becomes m.name }

abbrev pub mend_tag : (Option Name → Option Name) → TagValue → TagValue
mend_tag becomes t = record t { name = becomes t.name }

abbrev pub mend_global : (Option Name → Option Name) → GlobalValue → GlobalValue
mend_global becomes g = record g { name = becomes g.name }

abbrev pub mend_element : (Option Name → Option Name) → ElementValue → ElementValue
mend_element becomes e = record e { name = becomes e.name }

abbrev pub mend_data : (Option Name → Option Name) → DataValue → DataValue
mend_data becomes d = record d { name = becomes d.name }

abbrev pub mend_local : (Option Name → Option Name) → LocalValue → LocalValue
mend_local becomes l = record l { name = becomes l.name }

-- ---- all but the names

-- all that is shown, without a name; those of types are a list of their own
abbrev pub without_names : Shown → Shown
without_names s = record s {
  type_names = [];
  functions = nameless mend_function s.functions;
  tables = nameless mend_table s.tables;
  memories = nameless mend_memory s.memories;
  tags = nameless mend_tag s.tags;
  globals = nameless mend_global s.globals;
  elements = nameless mend_element s.elements;
  data_segments = nameless mend_data s.data_segments;
  locals = nameless mend_local s.locals;
  name = None;
}

-- all but the names is the same
abbrev pub IsRenamed : (old new : Shown) → Type 0
IsRenamed old new = without_names new ≡ without_names old
