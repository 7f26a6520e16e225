-- What the sections of a module say of it ("Binary Format > Modules"): its items, as look-ups by index.
use Rattle.std.specs.Prelude.{ℕ, Bool, false, not, ◌||◌, ◌==◌, ◌+◌, List, [], ◌∷◌, ◌++◌, map, length, filter, zip, Option, Some, None, option_map, option_to_list, slice_get, unwrap_or, codes, bytes_eq}
use Rattle.std.specs.List.{range_with_len}
use Rattle.wasm_entries.specs.declared.record.RawLimits.{RawLimits}
use Rattle.wasm_entries.specs.declared.record.RawTableType.{RawTableType}
use Rattle.wasm_entries.specs.declared.record.RawGlobalType.{RawGlobalType}
use Rattle.wasm_entries.specs.declared.record.RawDesc.{RawDesc}
use Rattle.wasm_entries.specs.declared.record.RawDesc.TheVariants as descs
use Rattle.wasm_entries.specs.declared.record.RawExportKind.{RawExportKind}
use Rattle.wasm_entries.specs.declared.record.RawExportKind.TheVariants as kinds
use Rattle.wasm_forms.specs.declared.types.RawRef.{RawRef}
use Rattle.wasm_entries.specs.Record as entries
use Rattle.wasm_frames.specs.Record as wire
use Rattle.walrus_base.specs.Types.{RefType, ValType}
use Rattle.walrus_base.specs.Operators.{Space, Functions, Tables, Memories, Tags, Globals, Item, Op}
use Rattle.walrus_functions.specs.FromRaw.{val_of, heap_of}
use Rattle.walrus_groups.specs.Groups.{types_from}
use Rattle.walrus_functions.specs.Handlers.{params_of}
use Rattle.walrus_model.specs.Abstract.{Abstract, Name, ImportedBy, Defined, TypeDef, Body, Limits, TableType, MemoryType, GlobalType, ImportedFunction, LocalFunction, Function, Table, Memory, Tag, Global, ElementKind, PassiveElements, DeclaredElements, ActiveElements, ElementItems, ListedFunctions, Expressions, Element, DataKind, PassiveData, ActiveData, DataSegment, Import, Export, Custom}
use Rattle.walrus_model.specs.Constants.{consts_of}
use Rattle.walrus_model.specs.Customs.{is_debug_name}

-- ---- types of items

-- a reference type that was read: whether it is nullable, and its heap type (Reference Types)
abbrev pub ref_of : RawRef → RefType ℕ
ref_of r = record { nullable = r.nullable; heap = heap_of r.heap }

-- limits that were read: whether addresses have 64 bits, the minimum, and the maximum where there is one (Limits)
abbrev pub limits_of : RawLimits → Limits
limits_of l = record { wide = l.wide; minimum = l.minimum; maximum = l.maximum }

-- a table type that was read: its limits, and the reference type of its elements (Table Types)
abbrev pub table_type_of : RawTableType → TableType
table_type_of t = record { limits = limits_of t.limits; element = ref_of t.element }

-- a memory type that was read: its limits, whether it is shared, and the exponent of its page size where one is given (Memory Types)
abbrev pub memory_type_of : RawLimits → MemoryType
memory_type_of l = record { limits = limits_of l; shared = l.shared; page_exponent = l.page }

-- a global type that was read: the type of its value, whether it is mutable, and whether it is shared (Global Types)
abbrev pub global_type_of : RawGlobalType → GlobalType
global_type_of g = record { value = val_of g.value; mutable = g.mutable; shared = g.shared }

-- the type of each index: the members of the groups, one behind another
abbrev pub types_of : wire.Module → ℕ → Option TypeDef
types_of s i = slice_get (types_from 0 s.types) i

-- ---- imports: they come first in each index space

-- the type index of the function that an import brings, if it brings a function
abbrev pub imported_type : ℕ → RawDesc → Option ℕ
imported_type i (descs.Function ty) = Some ty
imported_type i d = None

-- the function that import i brings, if it brings one
abbrev pub imported_function : ℕ → RawDesc → Option Function
imported_function i (descs.Function ty) = Some (record { ty = ty; kind = ImportedFunction i })
imported_function i d = None

-- the table that import i brings, if it brings one; it has no initialiser
abbrev pub imported_table : ℕ → RawDesc → Option Table
imported_table i (descs.Table ty) = Some (record { origin = ImportedBy i; ty = table_type_of ty; initialiser = None })
imported_table i d = None

-- the memory that import i brings, if it brings one
abbrev pub imported_memory : ℕ → RawDesc → Option Memory
imported_memory i (descs.Memory l) = Some (record { origin = ImportedBy i; ty = memory_type_of l })
imported_memory i d = None

-- the global that import i brings, if it brings one; it has no initialiser
abbrev pub imported_global : ℕ → RawDesc → Option Global
imported_global i (descs.Global ty) = Some (record { origin = ImportedBy i; ty = global_type_of ty; initialiser = None })
imported_global i d = None

-- the tag that import i brings, if it brings one
abbrev pub imported_tag : ℕ → RawDesc → Option Tag
imported_tag i (descs.Tag ty) = Some (record { origin = ImportedBy i; ty = ty })
imported_tag i d = None

-- what imports bring to one index space, the first of them being import i
abbrev pub imported : {X : Type 0} → (ℕ → RawDesc → Option X) → ℕ → List entries.Import → List X
imported get i [] = []
imported get i (x ∷ xs) = option_to_list (get i x.desc) ++ imported get (i + 1) xs

-- the item of an import, where these imports stand before it
abbrev pub item_after : List entries.Import → RawDesc → Item
item_after before (descs.Function ty) = (Functions, length (imported imported_function 0 before))
item_after before (descs.Table ty) = (Tables, length (imported imported_table 0 before))
item_after before (descs.Memory l) = (Memories, length (imported imported_memory 0 before))
item_after before (descs.Global ty) = (Globals, length (imported imported_global 0 before))
item_after before (descs.Tag ty) = (Tags, length (imported imported_tag 0 before))

-- imports, each with its two names and the item that it brings, where other imports stand before them (Import Section)
abbrev pub imports_after : List entries.Import → List entries.Import → List Import
imports_after before [] = []
imports_after before (x ∷ xs) = record { module_name = x.from; name = x.name; item = item_after before x.desc } ∷ imports_after (before ++ x ∷ []) xs

-- ---- functions

-- what the bytes of a body say: the types of the locals that it declares, and its operators
abbrev pub Said : Type 0
Said = List (ValType ℕ) × List Op

-- a body with parameters of these types: they are the first of its locals
abbrev pub body_with : List (ValType ℕ) → Said → Body
body_with params body = record { parameters = range_with_len 0 (length params); local_type = slice_get (params ++ body.0); declared = length body.0; operators = body.1 }

-- a function of a type and with a body
abbrev pub function_with : wire.Module → ℕ × Said → Function
function_with s f = record { ty = f.0; kind = LocalFunction (body_with (params_of (types_of s f.0)) f.1) }

-- ---- the other sections

-- a table that the module itself defines: its type, and its initialiser where it has one (Table Section)
abbrev pub table_of : entries.Table → Table
table_of t = record { origin = Defined; ty = table_type_of t.ty; initialiser = option_map consts_of t.initial }

-- a memory that the module itself defines (Memory Section)
abbrev pub memory_of : RawLimits → Memory
memory_of l = record { origin = Defined; ty = memory_type_of l }

-- a tag that the module itself defines, of the type with this index (Tag Section)
abbrev pub tag_of : ℕ → Tag
tag_of ty = record { origin = Defined; ty = ty }

-- a global that the module itself defines: its type and its initialiser (Global Section)
abbrev pub global_of : entries.Global → Global
global_of g = record { origin = Defined; ty = global_type_of g.ty; initialiser = Some (consts_of g.initial) }

-- how an element segment is used: active, with its table (0 where none is given) and its offset, passive, or declarative
abbrev pub element_kind : entries.ElementMode → ElementKind
element_kind (entries.ActiveElements table offset) = ActiveElements (unwrap_or table 0) (consts_of offset)
element_kind entries.PassiveElements = PassiveElements
element_kind entries.DeclaredElements = DeclaredElements

-- what an element segment lists: functions by their indices, or constant expressions of a reference type (Element Section)
abbrev pub element_items : entries.Items → ElementItems
element_items (entries.Functions fs) = ListedFunctions fs
element_items (entries.Expressions ty es) = Expressions (ref_of ty) (map consts_of es)

-- an element segment: whether it is active, passive or declarative, and what it lists (Element Section)
abbrev pub element_of : entries.Element → Element
element_of e = record { kind = element_kind e.mode; items = element_items e.items }

-- how a data segment is used: active, with its memory and its offset, or passive (Data Section)
abbrev pub data_kind : entries.DataMode → DataKind
data_kind (entries.ActiveData memory offset) = ActiveData memory (consts_of offset)
data_kind entries.PassiveData = PassiveData

-- a data segment: whether it is active or passive, and its bytes (Data Section)
abbrev pub data_of : entries.Segment → DataSegment
data_of d = record { kind = data_kind d.mode; value = d.bytes }

-- the index space that the kind of an export stands for (Export Section)
abbrev pub space_of : RawExportKind → Space
space_of kinds.Function = Functions
space_of kinds.Table = Tables
space_of kinds.Memory = Memories
space_of kinds.Global = Globals
space_of kinds.Tag = Tags

-- an export: its name, and the item that it exports (Export Section)
abbrev pub export_of : entries.Export → Export
export_of e = record { name = e.name; item = (space_of e.kind, e.index) }

-- ---- the active segments that name a table or a memory

-- the element segment is active, on table t
abbrev pub is_on_table : ℕ → ElementKind → Bool
is_on_table t (ActiveElements table offset) = table == t
is_on_table t PassiveElements = false
is_on_table t DeclaredElements = false

-- the data segment is active, on memory y
abbrev pub is_on_memory : ℕ → DataKind → Bool
is_on_memory y (ActiveData memory offset) = memory == y
is_on_memory y PassiveData = false

-- something is there, and the test holds of it
abbrev pub passes : {X : Type 0} → (X → Bool) → Option X → Bool
passes test None = false
passes test (Some x) = test x

-- ---- custom sections: names, producers and debug information aside, their data is the same under all indices

-- the name of a custom section that isn't listed among the others: "name", "producers", or one that begins with ".debug"
abbrev pub is_apart : Name → Bool
is_apart name = bytes_eq name (codes "name") || (bytes_eq name (codes "producers") || is_debug_name name)

-- a custom section that was read: its name and its bytes, which are the same under all indices (Custom Section)
abbrev pub custom_of : wire.Custom → Custom
custom_of c = record { name = c.name; data_under = λ indices. c.bytes }

-- the custom sections in order, those for names, producers and debug information left out
abbrev pub customs_of : List wire.Custom → List Custom
customs_of cs = map custom_of (filter (λ (c : wire.Custom). not (is_apart c.name)) cs)

-- ---- the items of each index space, in order: the imported ones, and then the others

-- the types of the functions
abbrev pub function_types : wire.Module → List ℕ
function_types s = imported imported_type 0 s.imports ++ s.functions

-- the functions, whose bodies say this
abbrev pub functions_of : wire.Module → List Said → List Function
functions_of s bodies = imported imported_function 0 s.imports ++ map (function_with s) (zip s.functions bodies)

-- the tables by index: those that imports bring, then those of the table section
abbrev pub tables_of : wire.Module → List Table
tables_of s = imported imported_table 0 s.imports ++ map table_of s.tables

-- the memories by index: those that imports bring, then those of the memory section
abbrev pub memories_of : wire.Module → List Memory
memories_of s = imported imported_memory 0 s.imports ++ map memory_of s.memories

-- the tags by index: those that imports bring, then those of the tag section
abbrev pub tags_of : wire.Module → List Tag
tags_of s = imported imported_tag 0 s.imports ++ map tag_of s.tags

-- the globals by index: those that imports bring, then those of the global section
abbrev pub globals_of : wire.Module → List Global
globals_of s = imported imported_global 0 s.imports ++ map global_of s.globals

-- the element segments by index
abbrev pub elements_of : wire.Module → List Element
elements_of s = map element_of s.elements

-- the data segments by index
abbrev pub data_segments_of : wire.Module → List DataSegment
data_segments_of s = map data_of s.data_segments

-- ---- the module

-- the module of these sections, whose bodies say this, before what the name and the producers section say is put in
abbrev pub module_of : wire.Module → List Said → Abstract
module_of s bodies = record {
  types = types_of s;
  imports = slice_get (imports_after [] s.imports);
  functions = slice_get (functions_of s bodies);
  tables = slice_get (tables_of s);
  memories = slice_get (memories_of s);
  tags = slice_get (tags_of s);
  globals = slice_get (globals_of s);
  elements = slice_get (elements_of s);
  data_segments = slice_get (data_segments_of s);
  exports = map export_of s.exports;
  start = s.start;
  customs = customs_of s.customs;
  producers = [];
  named = λ x. [];
  table_segments = λ t e. passes (λ y. is_on_table t y.kind) (slice_get (elements_of s) e);
  memory_segments = λ y d. passes (λ x. is_on_memory y x.kind) (slice_get (data_segments_of s) d);
  handler_types = λ f. [];
  section_roots = [];
}
