-- The parts of a module in memory as an abstract module: the number of an item is the place of its id. Custom sections are kept beside the parts,
-- so that none are here.
use Rattle.std.specs.Prelude.{ℕ, Bool, false, ◌&&◌, not, List, [], map, filter, length, Option, Some, None, option_and_then, option_map, option_to_list, ◌≡◌}
use Rattle.std.specs.List.{range_with_len}
use Rattle.walrus_base.specs.Arena.{item_at, items}
use Rattle.walrus_base.specs.Id.{place}
use Rattle.walrus_base.specs.Locals.{locals}
use Rattle.walrus_base.specs.TypeDef.{name_bytes}
use Rattle.walrus_base.specs.ModuleTypes.{type_names, type_slots}
use Rattle.walrus_base.specs.ConstOps.{const_ops}
use Rattle.walrus_base.specs.Operators.{Types, Functions, Tables, Memories, Tags, Globals, Elements, DataSegments, Op, locals_of}
use Rattle.walrus_base.specs.PlaceList.{has}
use Rattle.walrus_base.specs.Value.{ref_type}
use Rattle.walrus_base.specs.declared.locals.ModuleLocals.{ModuleLocals}
use Rattle.walrus_base.specs.declared.module_types.ModuleTypes.{ModuleTypes}
use Rattle.walrus_items.specs.Function.{body_of, args_of, handlers_in}
use Rattle.walrus_items.specs.LocalFunction.{LocalFunction}
use Rattle.walrus_model.specs.EmittedBody.{types_of as local_types}
use Rattle.walrus_items.specs.Kinds.{exported, imported}
use Rattle.walrus_items.specs.Exports.{ExportValue, exports, ModuleExports}
use Rattle.walrus_items.specs.FunctionKinds.{kind_type}
use Rattle.walrus_items.specs.Functions.{FunctionValue, functions, ModuleFunctions}
use Rattle.walrus_items.specs.Imports.{ImportValue, imports, ModuleImports}
use Rattle.walrus_items.specs.declared.function_kind.FunctionKind.TheVariants as kind
use Rattle.walrus_items.specs.declared.function_kind.FunctionKind.{FunctionKind}
use Rattle.walrus_items.specs.declared.segments.DataKind.TheVariants.{Active, Passive}
use Rattle.walrus_items.specs.declared.segments.DataKind.{DataKind}
use Rattle.walrus_items.specs.declared.segments.ElementItems.TheVariants as element_contents
use Rattle.walrus_items.specs.declared.segments.ElementItems.{ElementItems}
use Rattle.walrus_items.specs.declared.segments.ElementKind.TheVariants as element_kinds
use Rattle.walrus_items.specs.declared.segments.ElementKind.{ElementKind}
use Rattle.walrus_items.specs.Data.{DataValue, data_segments, ModuleData}
use Rattle.walrus_items.specs.Elements.{ElementValue, elements, ModuleElements}
use Rattle.walrus_items.specs.Globals.{GlobalValue, globals, ModuleGlobals}
use Rattle.walrus_items.specs.Memories.{MemoryValue, memories, ModuleMemories}
use Rattle.walrus_items.specs.Tables.{TableValue, tables, ModuleTables}
use Rattle.walrus_items.specs.Tags.{TagValue, tags, ModuleTags}
use Rattle.walrus_model.specs.Abstract as abstract
use Rattle.walrus_producers.specs.Seen.{producers}
use Rattle.walrus_contents.specs.declared.parts.Contents.{Contents}
use Rattle.walrus_contents.specs.declared.parts.Parts.{Parts}

-- the type at each place, by its group
abbrev pub types_of : ModuleTypes → ℕ → Option abstract.TypeDef
types_of types i = item_at (type_slots types) i

-- the local is used and is no parameter
abbrev pub is_declared : LocalFunction → ℕ → Bool
is_declared f x = has (locals_of (body_of f)) x && not (has (args_of f) x)

-- a body with the locals that are its parameters; those that it uses beside them are declared
abbrev pub body : ModuleLocals → LocalFunction → abstract.Body
body all f = record {
  parameters = args_of f;
  local_type = item_at (local_types (locals all));
  declared = length (filter (is_declared f) (range_with_len 0 (length (locals all))));
  operators = body_of f;
}

abbrev pub kind_of : ModuleLocals → FunctionKind → abstract.FunctionKind
kind_of all (kind.Import i) = abstract.ImportedFunction (place i.«import»)
kind_of all (kind.Local f) = abstract.LocalFunction (body all f)
kind_of all (kind.Uninitialized ty) = abstract.Uninitialised

-- the types of the legacy handlers of a function
abbrev pub kind_handlers : FunctionKind → List ℕ
kind_handlers (kind.Import i) = []
kind_handlers (kind.Local f) = handlers_in f
kind_handlers (kind.Uninitialized ty) = []

abbrev pub handlers_at : Option FunctionValue → List ℕ
handlers_at None = []
handlers_at (Some f) = kind_handlers f.kind

abbrev pub function : ModuleLocals → FunctionValue → abstract.Function
function all f = record { ty = place (kind_type f.kind); kind = kind_of all f.kind }

abbrev pub functions_of : ModuleLocals → ModuleFunctions → ℕ → Option abstract.Function
functions_of all funcs i = option_map (function all) (item_at (functions funcs) i)

abbrev pub export_of : ExportValue → abstract.Export
export_of e = record { name = e.name; item = exported e.item }

abbrev pub exports_of : ModuleExports → List abstract.Export
exports_of all = map export_of (items (exports all))

-- ---- what imports bring, or the module defines

-- what brings an item of which the import is known
abbrev pub origin_of : Option ℕ → abstract.Origin
origin_of None = abstract.Defined
origin_of (Some i) = abstract.ImportedBy i

abbrev pub import_of : ImportValue → abstract.Import
import_of i = record { module_name = i.module_name; name = i.name; item = imported i.kind }

abbrev pub imports_of : ModuleImports → ℕ → Option abstract.Import
imports_of all i = option_map import_of (item_at (imports all) i)

-- what initialises an item that no import brings; of one that an import brings none is written
abbrev pub own_initialiser : Option ℕ → Option (List Op) → Option (List Op)
own_initialiser None initialiser = initialiser
own_initialiser (Some i) initialiser = None

abbrev pub table_of : TableValue → abstract.Table
table_of t = record {
  origin = origin_of t.imported_by;
  ty = record { limits = record { wide = t.table64; minimum = t.initial; maximum = t.maximum }; element = t.element };
  initialiser = own_initialiser t.imported_by (option_map const_ops t.initialiser);
}

abbrev pub tables_of : ModuleTables → ℕ → Option abstract.Table
tables_of all i = option_map table_of (item_at (tables all) i)

abbrev pub memory_of : MemoryValue → abstract.Memory
memory_of m = record {
  origin = origin_of m.imported_by;
  ty = record { limits = record { wide = m.memory64; minimum = m.initial; maximum = m.maximum }; shared = m.shared; page_exponent = m.page_size_log2 };
}

abbrev pub memories_of : ModuleMemories → ℕ → Option abstract.Memory
memories_of all i = option_map memory_of (item_at (memories all) i)

abbrev pub tag_of : TagValue → abstract.Tag
tag_of t = record { origin = origin_of t.imported_by; ty = t.ty }

abbrev pub tags_of : ModuleTags → ℕ → Option abstract.Tag
tags_of all i = option_map tag_of (item_at (tags all) i)

abbrev pub global_of : GlobalValue → abstract.Global
global_of g = record { origin = origin_of g.imported_by; ty = record { value = g.ty; mutable = g.mutable; shared = g.shared }; initialiser = option_map const_ops g.initialiser }

abbrev pub globals_of : ModuleGlobals → ℕ → Option abstract.Global
globals_of all i = option_map global_of (item_at (globals all) i)

-- ---- element segments

-- how a segment is used
abbrev pub element_kind_of : ElementKind → abstract.ElementKind
element_kind_of (element_kinds.Active table offset) = abstract.ActiveElements (place table) (const_ops offset)
element_kind_of element_kinds.Passive = abstract.PassiveElements
element_kind_of element_kinds.Declared = abstract.DeclaredElements

-- what it holds
abbrev pub element_items_of : ElementItems → abstract.ElementItems
element_items_of (element_contents.Functions fs) = abstract.ListedFunctions (map place fs.items)
element_items_of (element_contents.Expressions ty es) = abstract.Expressions (ref_type ty) (map const_ops es.items)

abbrev pub element_of : ElementValue → abstract.Element
element_of e = record { kind = element_kind_of e.kind; items = element_items_of e.items }

abbrev pub elements_of : ModuleElements → ℕ → Option abstract.Element
elements_of all i = option_map element_of (item_at (elements all) i)

-- the segments in the set of a table, if one is there
abbrev pub kept_elements : Option TableValue → ℕ → Bool
kept_elements None e = false
kept_elements (Some t) e = t.segments e

-- ---- data segments

-- how a segment is used
abbrev pub data_kind_of : DataKind → abstract.DataKind
data_kind_of (Active memory offset) = abstract.ActiveData (place memory) (const_ops offset)
data_kind_of Passive = abstract.PassiveData

abbrev pub data_of : DataValue → abstract.DataSegment
data_of d = record { kind = data_kind_of d.kind; value = d.value }

abbrev pub data_segments_of : ModuleData → ℕ → Option abstract.DataSegment
data_segments_of all i = option_map data_of (item_at (data_segments all) i)

-- the segments in the set of a memory, if one is there
abbrev pub kept_data : Option MemoryValue → ℕ → Bool
kept_data None d = false
kept_data (Some m) d = m.segments d

-- ---- names

-- the name of an item that is there, or none
abbrev pub name_at : {X : Type 0} → (X → Option abstract.Name) → Option X → List abstract.Name
name_at name o = option_to_list (option_and_then name o)

-- the name of what is there, or none, so that what has no name and what isn't there are told alike
abbrev pub named_of : Contents → abstract.Subject → List abstract.Name
named_of c abstract.TheModule = option_to_list (name_bytes c.name)
named_of c (abstract.AnItem (Types, i)) = name_at (λ n. n) (item_at (type_names c.types) i)
named_of c (abstract.AnItem (Functions, i)) = name_at (λ f. f.name) (item_at (functions c.funcs) i)
named_of c (abstract.AnItem (Tables, i)) = name_at (λ t. t.name) (item_at (tables c.tables) i)
named_of c (abstract.AnItem (Memories, i)) = name_at (λ m. m.name) (item_at (memories c.memories) i)
named_of c (abstract.AnItem (Tags, i)) = name_at (λ t. t.name) (item_at (tags c.tags) i)
named_of c (abstract.AnItem (Globals, i)) = name_at (λ g. g.name) (item_at (globals c.globals) i)
named_of c (abstract.AnItem (Elements, i)) = name_at (λ e. e.name) (item_at (elements c.elements) i)
named_of c (abstract.AnItem (DataSegments, i)) = name_at (λ d. d.name) (item_at (data_segments c.data_) i)
named_of c (abstract.ALocal f x) = name_at (λ l. name_bytes l.name) (item_at (locals c.locals) x)

-- ---- the module

-- what is lent, as if it were owned
abbrev pub lent : Parts → Contents
lent p = record {
  types = p.types.now;
  locals = p.locals.now;
  imports = p.imports.now;
  funcs = p.funcs.now;
  tables = p.tables.now;
  memories = p.memories.now;
  tags = p.tags.now;
  globals = p.globals.now;
  elements = p.elements.now;
  data_ = p.data_.now;
  exports = p.exports.now;
  start = p.start;
  producers = p.producers.now;
  name = p.name.now;
}

-- the module of these contents
abbrev pub contents_view : Contents → abstract.Abstract
contents_view c = record {
  types = types_of c.types;
  imports = imports_of c.imports;
  functions = functions_of c.locals c.funcs;
  tables = tables_of c.tables;
  memories = memories_of c.memories;
  tags = tags_of c.tags;
  globals = globals_of c.globals;
  elements = elements_of c.elements;
  data_segments = data_segments_of c.data_;
  exports = exports_of c.exports;
  start = option_map place c.start;
  customs = [];
  producers = producers c.producers;
  named = named_of c;
  table_segments = λ t e. kept_elements (item_at (tables c.tables) t) e;
  memory_segments = λ y d. kept_data (item_at (memories c.memories) y) d;
  handler_types = λ f. handlers_at (item_at (functions c.funcs) f);
  section_roots = [];
}

-- the same of parts
abbrev pub parts_view : Parts → abstract.Abstract
parts_view p = contents_view (lent p)

-- it holds types, locals, functions, exports and producers alone: no import, table, memory, tag, global or segment, dropped ones
-- included
pub record HoldsNoOthers (c : Contents) : Type 0 where
  pub imports : imports c.imports ≡ []
  pub tables : tables c.tables ≡ []
  pub memories : memories c.memories ≡ []
  pub tags : tags c.tags ≡ []
  pub globals : globals c.globals ≡ []
  pub elements : elements c.elements ≡ []
  pub data_segments : data_segments c.data_ ≡ []

-- they hold nothing, dropped items included
pub record HoldsNothing (c : Contents) : Type 0 where
  pub types : type_slots c.types ≡ []
  pub type_names : type_names c.types ≡ []
  pub locals : locals c.locals ≡ []
  pub imports : imports c.imports ≡ []
  pub functions : functions c.funcs ≡ []
  pub tables : tables c.tables ≡ []
  pub memories : memories c.memories ≡ []
  pub tags : tags c.tags ≡ []
  pub globals : globals c.globals ≡ []
  pub elements : elements c.elements ≡ []
  pub data_segments : data_segments c.data_ ≡ []
  pub exports : exports c.exports ≡ []
  pub start : c.start ≡ None
  pub producers : producers c.producers ≡ []
  pub name : c.name ≡ None
