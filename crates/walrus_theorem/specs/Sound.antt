-- What is asked of each item of a module in memory: a module is well made (`IsWellMade`) just where it is so of all.
use Rattle.std.specs.Prelude.{ℕ, List, [], length, flat_map, Some, IsSome, AllPairs, Contains, codes, ◌≡◌, ◌≢◌, ◌<◌, ◌≤◌, ◌⊎◌, ◌↔◌}
use Rattle.walrus_base.specs.Types.{HeapType, IsNotExact, comp_names}
use Rattle.walrus_base.specs.Operators.{Space, Types, Functions, Tables, Memories, Tags, Globals, Elements, DataSegments, Item, Op, names_of}
use Rattle.walrus_model.specs.Abstract.{Abstract, Name, TypeDef, Body, FunctionKind, ImportedFunction, LocalFunction, Uninitialised, Function, Table, Memory, Global, Element, ActiveElements, DataSegment, ActiveData, Export, Custom}
use Rattle.walrus_model.specs.Config.{Config}
use Rattle.walrus_model.specs.Live.{IsLive}
use Rattle.walrus_model.specs.Order.{ByImport}
use Rattle.walrus_model.specs.Refers.{IsUsed, written_in}
use Rattle.walrus_model.specs.Rules.{IsAtMost, IsEarlier, IsEmptyFunctionType, IsFunctionType, IsImportedGlobal, MemoryHolds, OffsetHolds}
use Rattle.walrus_model.specs.Spaces.{Thing, look}
use Rattle.walrus_model.specs.WellMade.{ImportsMatch, consts_in, heaps_in, op_heaps}
use Rattle.walrus_theorem.specs.OkLaws.{AreCounted}
use Rattle.walrus_theorem.specs.Pinned.{DeclaresLocal}
use Rattle.walrus_theorem.specs.WellMade.{IsWellFormed, IsWellMade}

-- ---- by kind

-- a type: at most one supertype, which comes before; every other type that it names is of an earlier group or of its own
pub record TypeHolds (i : ℕ) (x : TypeDef) : Type 0 where
  pub one_supertype : length x.sub.supertypes ≤ 1
  pub supertypes : (u : ℕ) → Contains x.sub.supertypes u → u < i
  pub others : (u : ℕ) → Contains (comp_names x.sub.comp) u → IsEarlier (λ s t. s < t) x.group u

-- no more locals are used and are no parameters than engines take
abbrev pub DeclaresFew : Body → Type 0
DeclaresFew b = (locals : List ℕ) → AllPairs (λ (x : ℕ) (y : ℕ). x ≢ y) locals → ((x : ℕ) → Contains locals x → DeclaresLocal b x) → length locals ≤ 50_000

-- a body reads from some bytes, each local that it uses has a type, and it declares few
pub record BodyHolds (c : Config) (m : Abstract) (ty : ℕ) (b : Body) : Type 0 where
  pub well : IsWellFormed c m ty b
  pub typed : (x : ℕ) → IsUsed b x → IsSome (b.local_type x)
  pub few : DeclaresFew b

-- a function is imported or has a body
abbrev pub KindHolds : Config → Abstract → ℕ → FunctionKind → Type 0
KindHolds c m ty (ImportedFunction i) = Unit {0}
KindHolds c m ty (LocalFunction b) = BodyHolds c m ty b
KindHolds c m ty Uninitialised = ⊥

pub record FunctionHolds (c : Config) (m : Abstract) (f : Function) : Type 0 where
  pub typed : IsFunctionType m f.ty
  pub kind : KindHolds c m f.ty f.kind

-- the initialiser of a table reads imported globals alone
pub record TableHolds (m : Abstract) (t : Table) : Type 0 where
  pub limits : IsAtMost t.ty.limits.minimum t.ty.limits.maximum
  pub initialiser : (g : ℕ) (ops : List Op) → t.initialiser ≡ Some ops → Contains (names_of ops) (Globals, g) → IsImportedGlobal m g

-- that of a global imported or earlier ones
abbrev pub GlobalHolds : Abstract → ℕ → Global → Type 0
GlobalHolds m i x = (g : ℕ) (ops : List Op) → x.initialiser ≡ Some ops → Contains (names_of ops) (Globals, g) → IsImportedGlobal m g ⊎ ByImport m Globals g i

-- the offset of an active segment is of the type of addresses
abbrev pub ElementHolds : Abstract → Element → Type 0
ElementHolds m e = (table : ℕ) (t : Table) (offset : List Op) → e.kind ≡ ActiveElements table offset → m.tables table ≡ Some t → OffsetHolds m t.ty.limits.wide offset

abbrev pub DataHolds : Abstract → DataSegment → Type 0
DataHolds m d = (memory : ℕ) (x : Memory) (offset : List Op) → d.kind ≡ ActiveData memory offset → m.memories memory ≡ Some x → OffsetHolds m x.ty.limits.wide offset

abbrev pub ThingHolds : Config → Abstract → (s : Space) → ℕ → Thing s → Type 0
ThingHolds c m Types i x = TypeHolds i x
ThingHolds c m Functions i f = FunctionHolds c m f
ThingHolds c m Tables i t = TableHolds m t
ThingHolds c m Memories i x = MemoryHolds x.ty
ThingHolds c m Tags i t = IsFunctionType m t.ty
ThingHolds c m Globals i x = GlobalHolds m i x
ThingHolds c m Elements i e = ElementHolds m e
ThingHolds c m DataSegments i d = DataHolds m d

-- ---- one item

-- what an item names is there, it names no exact heap type and has no empty constant expression, and the rules of its kind hold; of an item that
-- isn't there nothing is asked
pub record IsSound (c : Config) (m : Abstract) (x : Item) : Type 0 where
  pub names : (y : Item) → Contains (written_in m x) y → IsLive m y
  pub heaps : (h : HeapType ℕ) → Contains (heaps_in m x) h → IsNotExact h
  pub consts : (ops : List Op) → Contains (consts_in m x) ops → ops ≢ []
  pub const_heaps : (ops : List Op) (h : HeapType ℕ) → Contains (consts_in m x) ops → Contains (flat_map op_heaps ops) h → IsNotExact h
  pub holds : (t : Thing x.0) → look m x.0 x.1 ≡ Some t → ThingHolds c m x.0 x.1 t

-- ---- all of a module

-- a custom section may have this name
abbrev pub IsFreeName : Name → Type 0
IsFreeName name = (name ≢ codes "name") × (name ≢ codes "producers")

-- imports and items name each other, each item is sound, exports have names of their own and are there, the start function is there and takes and
-- gives nothing, and custom sections have names that are free
pub record IsSoundThroughout (c : Config) (m : Abstract) : Type 0 where
  pub imports : ImportsMatch m
  pub items : (x : Item) → IsSound c m x
  pub distinct : AllPairs (λ (d : Export) (e : Export). d.name ≢ e.name) m.exports
  pub exports : (e : Export) → Contains m.exports e → IsLive m e.item
  pub start : (f : ℕ) → m.start ≡ Some f → IsLive m (Functions, f)
  pub starts_empty : (i : ℕ) (f : Function) → m.start ≡ Some i → m.functions i ≡ Some f → IsEmptyFunctionType m f.ty
  pub customs : (s : Custom) → Contains m.customs s → IsFreeName s.name

-- a module is well made just where it is sound throughout, and each body counts the locals that it declares
abbrev pub WellMadeIsSound : Type 0
WellMadeIsSound = (c : Config) (m : Abstract) → IsWellMade c m ↔ (IsSoundThroughout c m × AreCounted m)
