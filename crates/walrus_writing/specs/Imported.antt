-- What is answered where an import is written as a record, and how the two say the same.
use Rattle.std.specs.Prelude.{ℕ, Bool, false, true, Option, Some, None, option_map, Result, Ok, Err, ◌≡◌, ⊤}
use Rattle.wasm_entries.specs.Record as entries
use Rattle.wasm_entries.specs.Record.{import_entry}
use Rattle.wasm_entries.specs.Spelling.{DescStands, ImportStands}
use Rattle.wasm_entries.specs.declared.record.RawDesc.{RawDesc}
use Rattle.wasm_entries.specs.declared.record.RawImport.{RawImport}
use Rattle.walrus_base.specs.Operators.{Space, Types, Functions, Tables, Memories, Tags, Globals, Elements, DataSegments, Item}
use Rattle.walrus_code.specs.Names.{Lookup}
use Rattle.walrus_code.specs.Results.{heap_is_exact, val_is_exact}
use Rattle.walrus_code.specs.declared.error.IrError.{IrError}
use Rattle.walrus_code.specs.declared.error.IrError.TheVariants.{Malformed, Memory, NoIndex, NotWritable, TooLarge}
use Rattle.walrus_constants.specs.Named.{named_global, named_table}
use Rattle.walrus_model.specs.Abstract.{Abstract, Function, Import, ImportedBy, ImportedFunction, Tag}
use Rattle.walrus_model.specs.Imported.{brought_by}
use Rattle.walrus_model.specs.Spaces.{Thing, look}
use Rattle.walrus_model.specs.WellMade.{import_of}
use Rattle.walrus_items.specs.declared.error.Error.{Error}
use Rattle.walrus_items.specs.declared.error.Error.TheVariants as errors

-- ---- the thing that an import brings

-- the thing as import k brings it; segments and types are never brought
abbrev pub as_brought : (s : Space) → ℕ → Thing s → Thing s
as_brought Functions k f = record { ty = f.ty; kind = ImportedFunction k }
as_brought Tables k t = record { origin = ImportedBy k; ty = t.ty; initialiser = None }
as_brought Memories k m = record { origin = ImportedBy k; ty = m.ty }
as_brought Tags k t = record { origin = ImportedBy k; ty = t.ty }
as_brought Globals k g = record { origin = ImportedBy k; ty = g.ty; initialiser = None }
as_brought Types k t = t
as_brought Elements k e = e
as_brought DataSegments k d = d

-- it has no initialiser, as nothing that an import brings has one
abbrev pub IsBare : (s : Space) → Thing s → Type 0
IsBare Tables t = t.initialiser ≡ None
IsBare Globals g = g.initialiser ≡ None
IsBare Functions f = ⊤
IsBare Memories m = ⊤
IsBare Tags t = ⊤
IsBare Types t = ⊤
IsBare Elements e = ⊤
IsBare DataSegments d = ⊤

-- the function, or the tag, with the index of its type
abbrev pub named_function : Lookup → Function → Option Function
named_function names f = option_map (λ ty. record { ty = ty; kind = f.kind }) (names Types f.ty)

abbrev pub named_tag : Lookup → Tag → Option Tag
named_tag names t = option_map (λ ty. record { origin = t.origin; ty = ty }) (names Types t.ty)

-- the thing under a look-up: none where something that it names has no index, or where no import brings such things
abbrev pub named_thing : Lookup → (s : Space) → Thing s → Option (Thing s)
named_thing names Functions f = named_function names f
named_thing names Tables t = named_table names t
named_thing names Memories m = Some m
named_thing names Tags t = named_tag names t
named_thing names Globals g = named_global names g
named_thing names Types t = None
named_thing names Elements e = None
named_thing names DataSegments d = None

-- an exact heap type, which no bytes spell, stands in its type
abbrev pub is_exact_thing : (s : Space) → Thing s → Bool
is_exact_thing Tables t = heap_is_exact t.ty.element.heap
is_exact_thing Globals g = val_is_exact g.ty.value
is_exact_thing Functions f = false
is_exact_thing Memories m = false
is_exact_thing Tags t = false
is_exact_thing Types t = false
is_exact_thing Elements e = false
is_exact_thing DataSegments d = false

-- what each import brings says so, and has no initialiser
pub record AreBare (v : Abstract) : Type 0 where
  pub says : (p : ℕ) (x : Import) → v.imports p ≡ Some x → import_of v x.item ≡ Some p
  pub bare : (p : ℕ) (x : Import) (thing : Thing x.item.0) → v.imports p ≡ Some x → look v x.item.0 x.item.1 ≡ Some thing → IsBare x.item.0 thing

-- ---- descriptions

-- as import k, the description brings the thing under the look-up
pub record BringsThing (names : Lookup) (s : Space) (k : ℕ) (x : Thing s) (d : RawDesc) : Type 0 where
  pub thing : Thing s
  pub brings : brought_by s k d ≡ Some thing
  pub named : named_thing names s (as_brought s k x) ≡ Some thing

-- the description is that of the thing, and bytes spell it
pub record Describes (names : Lookup) (s : Space) (x : Thing s) (d : RawDesc) : Type 0 where
  pub brings : (k : ℕ) → BringsThing names s k x d
  pub not_exact : is_exact_thing s x ≡ false
  pub stands : DescStands d

-- something that the thing names has no index
abbrev pub LacksIndexIn : Lookup → (s : Space) → Thing s → Type 0
LacksIndexIn names s x = (k : ℕ) → named_thing names s (as_brought s k x) ≡ None

-- the description of a thing; refused only with a cause
abbrev pub IndexesDesc : Lookup → (s : Space) → Thing s → Result RawDesc IrError → Type 0
IndexesDesc names s x (Ok d) = Describes names s x d
IndexesDesc names s x (Err NoIndex) = LacksIndexIn names s x
IndexesDesc names s x (Err NotWritable) = is_exact_thing s x ≡ true
IndexesDesc names s x (Err (Memory e)) = ⊥
IndexesDesc names s x (Err Malformed) = ⊥
IndexesDesc names s x (Err TooLarge) = ⊥

-- the same of the item under a number of its space, which is there
pub record IndexesItem (names : Lookup) (v : Abstract) (x : Item) (result : Result RawDesc IrError) : Type 0 where
  pub thing : Thing x.0
  pub is : look v x.0 x.1 ≡ Some thing
  pub indexed : IndexesDesc names x.0 thing result

-- ---- imports

-- the entry is that of the import: by the same names, it brings the item that the import names, and bytes spell it
pub record IsEntryOf (names : Lookup) (v : Abstract) (x : Import) (w : entries.Import) : Type 0 where
  pub from : w.from ≡ x.module_name
  pub name : w.name ≡ x.name
  pub thing : Thing x.item.0
  pub is : look v x.item.0 x.item.1 ≡ Some thing
  pub describes : Describes names x.item.0 thing w.desc
  pub stands : ImportStands w

-- something that the imported item names has no index
abbrev pub ImportLacksIndex : Lookup → Abstract → Import → Type 0
ImportLacksIndex names v x = (thing : Thing x.item.0) × (look v x.item.0 x.item.1 ≡ Some thing) × LacksIndexIn names x.item.0 thing

-- no bytes spell the type of the imported item
abbrev pub ImportIsExact : Abstract → Import → Type 0
ImportIsExact v x = (thing : Thing x.item.0) × (look v x.item.0 x.item.1 ≡ Some thing) × (is_exact_thing x.item.0 thing ≡ true)

-- the entry of an import; refused only with a cause, or for want of memory
abbrev pub IndexesImport : Lookup → Abstract → Import → Result RawImport IrError → Type 0
IndexesImport names v x (Ok raw) = IsEntryOf names v x (import_entry raw)
IndexesImport names v x (Err NoIndex) = ImportLacksIndex names v x
IndexesImport names v x (Err NotWritable) = ImportIsExact v x
IndexesImport names v x (Err (Memory e)) = ⊤
IndexesImport names v x (Err Malformed) = ⊥
IndexesImport names v x (Err TooLarge) = ⊥

-- the entry is that of the import at a place
pub record IsEntryAt (names : Lookup) (v : Abstract) (p : ℕ) (w : entries.Import) : Type 0 where
  pub value : Import
  pub is : v.imports p ≡ Some value
  pub entry : IsEntryOf names v value w

-- all that imported items name has an index
abbrev pub ImportsIndexed : Lookup → Abstract → Type 0
ImportsIndexed names v = (p : ℕ) (x : Import) → v.imports p ≡ Some x → ImportLacksIndex names v x → ⊥

-- the imports of a module are written: no bytes spell the type of an imported item
abbrev pub RefusesImports : Abstract → Error → Type 0
RefusesImports v (errors.Memory e) = ⊤
RefusesImports v errors.NotWritable = (p : ℕ) × ((x : Import) × ((v.imports p ≡ Some x) × ImportIsExact v x))
RefusesImports v _ = ⊥
