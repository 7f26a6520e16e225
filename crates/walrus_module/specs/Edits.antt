-- What the calls that edit a module make of it: what their clauses say of the collections, as edits of the abstract module.
use Rattle.std.specs.Prelude.{ℕ, Bool, true, List, [], ◌∷◌, ◌++◌, length, map, Option, Some, None, Ok, AllPairs, slice_set, ◌≡◌, ◌≢◌, ◌⊎◌}
use Rattle.walrus_base.specs.Arena.{item_at}
use Rattle.walrus_base.specs.Id.{place}
use Rattle.walrus_base.specs.declared.id.Id.{Id}
use Rattle.walrus_base.specs.declared.keys.FunctionKey.{FunctionKey}
use Rattle.walrus_base.specs.declared.keys.ImportKey.{ImportKey}
use Rattle.walrus_base.specs.declared.keys.TypeKey.{TypeKey}
use Rattle.walrus_base.specs.Alone.{FoundOrAdded, alone}
use Rattle.walrus_base.specs.Composite.{FunctionType}
use Rattle.walrus_base.specs.Locals.{locals}
use Rattle.walrus_base.specs.ModuleTypes.{type_names, type_slots}
use Rattle.walrus_base.specs.Operators.{Types, Functions, Tables, Memories, Tags, Globals, Elements, DataSegments, function_item}
use Rattle.walrus_base.specs.TypeDef.{TypeDef}
use Rattle.walrus_model.specs.Abstract.{Abstract, Body, Export, ImportedFunction as Brought, LocalFunction as WithBody}
use Rattle.walrus_model.specs.BlockHandlers.{params_of}
use Rattle.walrus_model.specs.ReadFunction.{StaysInFront}
use Rattle.walrus_model.specs.Spaces.{Thing}
use Rattle.walrus_model.specs.WellMade.{ImportsMatch}
use Rattle.walrus_contents.specs.View.{body, contents_view, data_of, element_of, export_of, function, global_of, import_of, memory_of, table_of, tag_of}
use Rattle.walrus_contents.specs.declared.parts.Contents.{Contents}
use Rattle.walrus_items.specs.Data.{DataValue, data_segments}
use Rattle.walrus_items.specs.Elements.{ElementValue, elements}
use Rattle.walrus_items.specs.Exports.{ExportValue, exports}
use Rattle.walrus_items.specs.Function.{function_type}
use Rattle.walrus_items.specs.Functions.{FunctionValue, functions}
use Rattle.walrus_items.specs.Globals.{GlobalValue, globals}
use Rattle.walrus_items.specs.Imports.{ImportValue, imports}
use Rattle.walrus_items.specs.LocalFunction.{LocalFunction}
use Rattle.walrus_items.specs.Memories.{MemoryValue, memories}
use Rattle.walrus_items.specs.Tables.{TableValue, tables}
use Rattle.walrus_items.specs.Tags.{TagValue, tags}
use Rattle.walrus_items.specs.Kinds.{exported, imported}
use Rattle.walrus_items.specs.declared.custom.CustomSection.{Ghosts}
use Rattle.walrus_items.specs.declared.function_kind.FunctionKind.TheVariants.{Import, Local}
use Rattle.walrus_items.specs.declared.function_kind.ImportedFunction.{ImportedFunction}
use Rattle.walrus_items.specs.declared.kinds.ImportKind.TheVariants.{Function}
use Rattle.walrus_theorem.specs.Engines.{Segments}
use Rattle.walrus_theorem.specs.Edits.{GainsCustom, GainsExport, GainsImported, GainsItem, LosesCustom, LosesExport, LosesItem, MakesImported, MakesLocal, RenamesImport, SwapsBodies, SwapsCustom, SwapsExport}
use Rattle.walrus_module.specs.Customs.{sections}
use Rattle.walrus_module.specs.Imported.{AddsImported}
use Rattle.walrus_module.specs.Meaning.{Meaning, meaning}
use Rattle.walrus_module.specs.Raws.{first_raw, without_first}
use Rattle.walrus_module.specs.Replaced.{Builds, IsMadeLocal, IsReplaced, ReplacesExported, ReplacesImport, ReplacesImported, with_body}
use Rattle.walrus_module.specs.View.{contents_of, custom_of, held_view, kept_by, view, with_sections}
use Rattle.walrus_module.specs.declared.entry.SectionEntry.{SectionEntry}
use Rattle.walrus_module.specs.declared.module.Module.{Module}

-- the abstract module of what is held, beside custom sections of these meanings
abbrev pub seen : List Meaning → Contents → Abstract
seen ss m = with_sections (contents_view m) ss

-- so the abstract modules stand to each other, whatever custom sections stand beside
abbrev pub Edits : (Abstract → Abstract → Type 0) → (old new : Contents) → Type 0
Edits Edit old new = (ss : List Meaning) → Edit (seen ss old) (seen ss new)

-- ---- exports

-- of what is held exports alone changed
abbrev pub OnlyExports : (old new : Contents) → Type 0
OnlyExports old new = new ≡ record old { exports = new.exports }

-- an export that was added stands behind the others
abbrev pub ExportAdded : Type 0
ExportAdded = (old new : Contents) (e : ExportValue) → OnlyExports old new → exports new.exports ≡ exports old.exports ++ Some e ∷ []
    → Edits (GainsExport (export_of e)) old new

-- an export that was written at its place stands where another stood
abbrev pub ExportSet : Type 0
ExportSet =
    (old new : Contents) (i : ℕ) (was now : ExportValue) → OnlyExports old new → item_at (exports old.exports) i ≡ Some was
    → exports new.exports ≡ slice_set (exports old.exports) i (Some now) → Edits (SwapsExport (export_of was) (export_of now)) old new

-- an export that was deleted is gone
abbrev pub ExportDeleted : Type 0
ExportDeleted =
    (old new : Contents) (i : ℕ) (was : ExportValue) → OnlyExports old new → item_at (exports old.exports) i ≡ Some was
    → exports new.exports ≡ slice_set (exports old.exports) i None → Edits (LosesExport (export_of was)) old new

-- ---- imports

-- an import that was written under other names brings what it brought
abbrev pub ImportSet : Type 0
ImportSet =
    (old new : Contents) (i : ℕ) (was now : ImportValue) → new ≡ record old { imports = new.imports } → item_at (imports old.imports) i ≡ Some was
    → now.kind ≡ was.kind
    → imports new.imports ≡ slice_set (imports old.imports) i (Some now) → Edits (RenamesImport i (import_of was) (import_of now)) old new

-- the function at this place, of this type, that an import brings
abbrev pub brought : Id TypeKey → ℕ → Id ImportKey → FunctionValue
brought ty own by = record { id = own; kind = Import (record { ty = ty; «import» = by }); name = None }

-- a function that was imported stands behind the others, and so does its import
abbrev pub FunctionImported : Type 0
FunctionImported =
    (old new : Contents) (ids : Id FunctionKey × Id ImportKey) (from name : List ℕ) (ty : Id TypeKey)
    → new ≡ record old { funcs = new.funcs; imports = new.imports }
    → AddsImported (Ok ids) (functions old.funcs) (functions new.funcs) (imports old.imports) (imports new.imports) from name (brought ty) Function
    → Edits (GainsImported Functions (place ids.0) (place ids.1) (record { ty = place ty; kind = Brought (place ids.1) })
    (record { module_name = from; name = name; item = function_item (place ids.0) })) old new

-- a function with a body that was written as imported, by an import that was added, is imported
abbrev pub FunctionMadeImported : Type 0
FunctionMadeImported =
    (old new : Contents) (j : ℕ) (f : FunctionValue) (l : LocalFunction) (by : Id ImportKey) (i : ImportValue)
    → new ≡ record old { funcs = new.funcs; imports = new.imports }
    → item_at (functions old.funcs) j ≡ Some f → f.kind ≡ Local l → imported i.kind ≡ function_item j → place by ≡ length (imports old.imports)
    → imports new.imports ≡ imports old.imports ++ Some i ∷ []
    → functions new.funcs ≡ slice_set (functions old.funcs) j (Some (record f { kind = Import (record { ty = function_type l; «import» = by }) }))
    → Edits (MakesImported j (place by) (body old.locals l) (import_of i)) old new

-- ---- functions

-- in place of a body stands another one, of the same type
pub record BodySet (a b : Option FunctionValue) : Type 0 where
  pub function : FunctionValue
  pub old : LocalFunction
  pub was : a ≡ Some function
  pub had : function.kind ≡ Local old
  pub new : LocalFunction
  pub is : b ≡ Some (with_body new function)
  pub typed : function_type new ≡ function_type old

-- functions that were written with other bodies have these; locals may have come
abbrev pub BodiesSet : Type 0
BodiesSet =
    (chosen : ℕ → Bool) (old new : Contents) → new ≡ record old { funcs = new.funcs; locals = new.locals }
    → StaysInFront (locals old.locals) (locals new.locals)
    → ((i : ℕ) → (item_at (functions new.funcs) i ≡ item_at (functions old.funcs) i)
    ⊎ ((chosen i ≡ true) × BodySet (item_at (functions old.funcs) i) (item_at (functions new.funcs) i)))
    → Edits (SwapsBodies chosen) old new

-- a function with a body that was added stands behind the others
abbrev pub FunctionAdded : Type 0
FunctionAdded =
    (old new : Contents) (l : LocalFunction) (name : Option (List ℕ)) → new ≡ record old { funcs = new.funcs }
    → functions new.funcs ≡ functions old.funcs ++ Some (record { id = length (functions old.funcs); kind = Local l; name = name }) ∷ []
    → Edits (GainsItem Functions (length (functions old.funcs)) (record { ty = place (function_type l); kind = WithBody (body old.locals l) })) old new

-- ---- types

-- the type was there, and nothing changed; or it came
pub record HasType (p : ℕ) (x : TypeDef) (v w : Abstract) : Type 0 where
  pub stands : w.types p ≡ Some x
  pub comes : (w ≡ v) ⊎ GainsItem Types p x v w

-- a type of functions that was found or added is there, alone in its group
abbrev pub TypeFound : Type 0
TypeFound =
    (old new : Contents) (f : FunctionType) (p : ℕ) → new ≡ record old { types = new.types }
    → FoundOrAdded f (type_slots old.types) (type_slots new.types) (type_names old.types) (type_names new.types) p
    → Edits (HasType p (alone p f)) old new

-- ---- globals and data segments

-- a global that the module defines and that was added stands behind the others
abbrev pub GlobalAdded : Type 0
GlobalAdded =
    (old new : Contents) (g : GlobalValue) → new ≡ record old { globals = new.globals } → g.imported_by ≡ None
    → globals new.globals ≡ globals old.globals ++ Some g ∷ []
    → Edits (GainsItem Globals (length (globals old.globals)) (global_of g)) old new

-- a data segment that was added stands behind the others
abbrev pub DataAdded : Type 0
DataAdded =
    (old new : Contents) (d : DataValue) → new ≡ record old { data_ = new.data_ } → data_segments new.data_ ≡ data_segments old.data_ ++ Some d ∷ []
    → Edits (GainsItem DataSegments (length (data_segments old.data_)) (data_of d)) old new

-- ---- items that are deleted

-- a function with a body that was deleted is gone
abbrev pub FunctionDeleted : Type 0
FunctionDeleted =
    (old new : Contents) (j : ℕ) (f : FunctionValue) (l : LocalFunction) → new ≡ record old { funcs = new.funcs }
    → item_at (functions old.funcs) j ≡ Some f → f.kind ≡ Local l
    → functions new.funcs ≡ slice_set (functions old.funcs) j None → Edits (LosesItem Functions j (function old.locals f)) old new

-- so is a table that the module defines
abbrev pub TableDeleted : Type 0
TableDeleted =
    (old new : Contents) (i : ℕ) (t : TableValue) → new ≡ record old { tables = new.tables } → t.imported_by ≡ None
    → item_at (tables old.tables) i ≡ Some t
    → tables new.tables ≡ slice_set (tables old.tables) i None → Edits (LosesItem Tables i (table_of t)) old new

-- so is a memory that the module defines
abbrev pub MemoryDeleted : Type 0
MemoryDeleted =
    (old new : Contents) (i : ℕ) (m : MemoryValue) → new ≡ record old { memories = new.memories } → m.imported_by ≡ None
    → item_at (memories old.memories) i ≡ Some m
    → memories new.memories ≡ slice_set (memories old.memories) i None → Edits (LosesItem Memories i (memory_of m)) old new

-- so is a tag that the module defines
abbrev pub TagDeleted : Type 0
TagDeleted =
    (old new : Contents) (i : ℕ) (t : TagValue) → new ≡ record old { tags = new.tags } → t.imported_by ≡ None → item_at (tags old.tags) i ≡ Some t
    → tags new.tags ≡ slice_set (tags old.tags) i None → Edits (LosesItem Tags i (tag_of t)) old new

-- so is a global that the module defines
abbrev pub GlobalDeleted : Type 0
GlobalDeleted =
    (old new : Contents) (i : ℕ) (g : GlobalValue) → new ≡ record old { globals = new.globals } → g.imported_by ≡ None
    → item_at (globals old.globals) i ≡ Some g
    → globals new.globals ≡ slice_set (globals old.globals) i None → Edits (LosesItem Globals i (global_of g)) old new

-- and an element segment
abbrev pub ElementDeleted : Type 0
ElementDeleted =
    (old new : Contents) (i : ℕ) (e : ElementValue) → new ≡ record old { elements = new.elements } → item_at (elements old.elements) i ≡ Some e
    → elements new.elements ≡ slice_set (elements old.elements) i None → Edits (LosesItem Elements i (element_of e)) old new

-- and a data segment
abbrev pub DataDeleted : Type 0
DataDeleted =
    (old new : Contents) (i : ℕ) (d : DataValue) → new ≡ record old { data_ = new.data_ } → item_at (data_segments old.data_) i ≡ Some d
    → data_segments new.data_ ≡ slice_set (data_segments old.data_) i None → Edits (LosesItem DataSegments i (data_of d)) old new

-- ---- replaced functions

-- parameters of a body: distinct locals, of the types that a function type takes
pub record TakesTypes (ty : Option TypeDef) (b : Body) : Type 0 where
  pub distinct : AllPairs (λ (x : ℕ) (y : ℕ). x ≢ y) b.parameters
  pub typed : map b.local_type b.parameters ≡ map Some (params_of ty)

-- a function came, and an export that named another one names it
pub record Redirects (function : ℕ) (f : Thing Functions) (export : Export) (old new : Contents) : Type 0 where
  pub middle : Contents
  pub gains : Edits (GainsItem Functions function f) old middle
  pub swaps : Edits (SwapsExport export (record export { item = function_item function })) middle new

module _ {S : Type 0} where
  -- a function that an import brought is local, and takes what its type says
  pub record ImportedIsLocal (post : Builds) (fid : Id FunctionKey) (old new : Module S) : Type 0 where
    pub function : FunctionValue
    pub there : item_at (functions old.funcs) (place fid) ≡ Some function
    pub imported : ImportedFunction
    pub kind : function.kind ≡ Import imported
    pub def : TypeDef
    pub typed : item_at (type_slots old.types) (place imported.ty) ≡ Some def
    pub made : IsMadeLocal post fid (place imported.«import») function imported.ty def old new fid
    pub edits : Edits (MakesLocal (place fid) (place imported.«import») (body new.locals made.function)) (contents_of old) (contents_of new)
    pub takes : TakesTypes (Some def) (body new.locals made.function)

  -- so is each that is replaced, in a module whose imports and items name each other
  abbrev pub ImportedReplaced : Builds → (old : Module S) → Type 0
  ImportedReplaced post old = (fid id : Id FunctionKey) (new : Module S) → ImportsMatch (held_view old) → ReplacesImported post fid old new (Ok id)
      → ImportedIsLocal post fid old new

  -- so is the one that an import brings whose function is replaced
  abbrev pub ImportReplaced : Builds → (old : Module S) → Type 0
  ImportReplaced post old = (at : Id ImportKey) (fid : Id FunctionKey) (new : Module S) → ImportsMatch (held_view old) → ReplacesImport post at old new (Ok fid)
      → ImportedIsLocal post fid old new

  -- the export of a function with a body names another one that came, of its type and with its parameters
  pub record ExportIsRedirected (post : Builds) (fid : Id FunctionKey) (old new : Module S) (id : Id FunctionKey) : Type 0 where
    pub found : ℕ × ExportValue
    pub export : item_at (exports old.exports) found.0 ≡ Some found.1
    pub names : exported found.1.item ≡ function_item (place fid)
    pub function : FunctionValue
    pub there : item_at (functions old.funcs) (place fid) ≡ Some function
    pub local : LocalFunction
    pub kind : function.kind ≡ Local local
    pub replaced : IsReplaced post found local old new id
    pub edits : Redirects (place id) (record { ty = place (function_type local); kind = WithBody (body old.locals replaced.function) })
        (export_of found.1) (contents_of old) (contents_of new)

  -- so is each that is replaced
  abbrev pub ExportedReplaced : Builds → (old : Module S) → Type 0
  ExportedReplaced post old = (fid id : Id FunctionKey) (new : Module S) → ReplacesExported post fid old new (Ok id)
      → ExportIsRedirected post fid old new id

-- ---- custom sections

module _ {V : Type 0} {O : V → Type 0} (G : (v : V) → Ghosts (O v)) where
  -- of a module custom sections alone changed
  abbrev pub OnlyCustoms : (old new : Module (SectionEntry V O)) → Type 0
  OnlyCustoms old new = new ≡ record old { customs = new.customs }

  -- a custom section that was added stands behind the others, and asks to keep what it asks for
  abbrev pub CustomAdded : Type 0
  CustomAdded =
      (old new : Module (SectionEntry V O)) (s : SectionEntry V O) → OnlyCustoms old new → sections new.customs ≡ sections old.customs ++ Some s ∷ []
      → GainsCustom (custom_of (meaning G s)) (kept_by (meaning G s ∷ [])) (view G old) (view G new)

  -- one that was deleted is gone
  abbrev pub CustomDeleted : Type 0
  CustomDeleted =
      (old new : Module (SectionEntry V O)) (i : ℕ) (s : SectionEntry V O) → OnlyCustoms old new → item_at (sections old.customs) i ≡ Some s
      → sections new.customs ≡ slice_set (sections old.customs) i None → LosesCustom (custom_of (meaning G s)) (view G old) (view G new)

  -- the first raw one of a name that was taken out is gone
  abbrev pub RawRemoved : Type 0
  RawRemoved =
      (old new : Module (SectionEntry V O)) (name : List ℕ) (e : ℕ × SectionEntry V O) → OnlyCustoms old new
      → first_raw name (sections old.customs) ≡ Some e
      → sections new.customs ≡ without_first (first_raw name (sections old.customs)) (sections old.customs)
      → LosesCustom (custom_of (meaning G e.1)) (view G old) (view G new)

  -- one that was written at its place stands where another stood
  abbrev pub CustomSet : Type 0
  CustomSet =
      (old new : Module (SectionEntry V O)) (i : ℕ) (s t : SectionEntry V O) → OnlyCustoms old new → item_at (sections old.customs) i ≡ Some s
      → sections new.customs ≡ slice_set (sections old.customs) i (Some t)
      → SwapsCustom (custom_of (meaning G s)) (custom_of (meaning G t)) (kept_by (meaning G t ∷ [])) (view G old) (view G new)

-- ---- engines

-- whatever is held, edited or not, has its list of active segments: with it an engine begins
abbrev pub HeldHasSegments : Type 0
HeldHasSegments = (m : Contents) (ss : List Meaning) → Segments (seen ss m)
