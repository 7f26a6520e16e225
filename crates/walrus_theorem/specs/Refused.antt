-- Why a module in memory can't be written: each refusal with its causes, and what is said where there is none.
use Rattle.std.specs.Prelude.{ℕ, false, List, [], length, flat_map, Some, None, All, AllPairs, Contains, ◌++◌, ◌≡◌, ◌≢◌, ◌<◌, ◌≤◌, ◌^◌, ◌⊎◌, ⊤, codes, Result, Ok, Err}
use Rattle.walrus_base.specs.Types.{HeapType, IsNotExact, comp_names}
use Rattle.walrus_base.specs.Operators.{Space, Types, Functions, Globals, Item, Op, names_of}
use Rattle.walrus_model.specs.Abstract.{Abstract, TypeDef, Limits, Table, Global, Body, LocalFunction, Uninitialised, Function, Import, Custom}
use Rattle.walrus_model.specs.Abstract as model
use Rattle.walrus_model.specs.Config.{Config}
pub use Rattle.walrus_model.specs.Dead.{HasDead, DeadName, DeadLocal, DeadExport, DeadStart, DeadImport, NoKind}
use Rattle.walrus_model.specs.Live.{Has, IsLive}
use Rattle.walrus_model.specs.Names.{body_of}
use Rattle.walrus_model.specs.Order.{ByImport}
use Rattle.walrus_model.specs.Refers.{IsUsed}
use Rattle.walrus_model.specs.Rules.{IsEarlier, IsImportedGlobal}
use Rattle.walrus_model.specs.WellMade.{import_of, heaps_in, consts_in, op_heaps}
use Rattle.walrus_theorem.specs.Pinned.{IsWrittenAs}
use Rattle.walrus_theorem.specs.Spelling.{HasUnfit}
use Rattle.walrus_theorem.specs.WellMade.{IsWellFormed}

-- ---- TwoIndices: an import names a local item, or two imports name one; both are there

-- it is no function without a kind
abbrev pub HasKind : Abstract → Item → Type 0
HasKind v (Functions, i) = (f : Function) → v.functions i ≡ Some f → f.kind ≢ Uninitialised
HasKind v x = ⊤

pub data HasTwoIndices (v : Abstract) : Type 0 where
  LocalImported : (i : ℕ) (x : Import) → v.imports i ≡ Some x → IsLive v x.item → HasKind v x.item → import_of v x.item ≡ None → HasTwoIndices v
  ImportedTwice : (i j : ℕ) (x y : Import) → v.imports i ≡ Some x → v.imports j ≡ Some y → IsLive v x.item → i ≢ j → x.item ≡ y.item → HasTwoIndices v

-- ---- NoIndex: an item has none. All that is live is written, so each item needs one.

-- the initialiser of this table reads this global
abbrev pub TableReads : Abstract → (table global : ℕ) → Type 0
TableReads v i g = (t : Table) × ((ops : List Op) × ((v.tables i ≡ Some t) × (t.initialiser ≡ Some ops) × Contains (names_of ops) (Globals, g)))

-- the initialiser of this global reads that one
abbrev pub GlobalReads : Abstract → (reader global : ℕ) → Type 0
GlobalReads v i g = (x : Global) × ((ops : List Op) × ((v.globals i ≡ Some x) × (x.initialiser ≡ Some ops) × Contains (names_of ops) (Globals, g)))

-- The import that an item says to be brought by isn't there, or names another item; what an initialiser reads is not imported, or not written
-- before it; a type names one that is written later.
pub data LacksIndex (v : Abstract) : Type 0 where
  NotBrought : (y : Item) (i : ℕ) → import_of v y ≡ Some i → ((x : Import) → v.imports i ≡ Some x → x.item ≡ y → ⊥) → LacksIndex v
  LocalGlobalRead : (i g : ℕ) → TableReads v i g → IsLive v (Globals, g) → (IsImportedGlobal v g → ⊥) → LacksIndex v
  LaterGlobalRead : (i g : ℕ) → GlobalReads v i g → IsLive v (Globals, g) → (IsImportedGlobal v g ⊎ ByImport v Globals g i → ⊥) → LacksIndex v
  LaterSupertype : (t u : ℕ) (x : TypeDef) → v.types t ≡ Some x → Contains x.sub.supertypes u → IsLive v (Types, u) → (ByImport v Types u t → ⊥) → LacksIndex v
  LaterType : (t u : ℕ) (x : TypeDef) → v.types t ≡ Some x → Contains (comp_names x.sub.comp) u → IsLive v (Types, u) → (IsEarlier (ByImport v Types) x.group u → ⊥) → LacksIndex v

-- ---- NotWritable: a form that no bytes spell

pub data HasUnspelled (c : Config) (v : Abstract) : Type 0 where
  ExactType : (x : Item) (h : HeapType ℕ) → Contains (heaps_in v x) h → (IsNotExact h → ⊥) → HasUnspelled c v
  ExactConstant : (x : Item) (ops : List Op) (h : HeapType ℕ) → Contains (consts_in v x) ops → Contains (flat_map op_heaps ops) h → (IsNotExact h → ⊥) → HasUnspelled c v
  EmptyConstant : (x : Item) → Contains (consts_in v x) [] → HasUnspelled c v
  IllFormed : (HasDead v → ⊥) → (i : ℕ) (f : Function) (b : Body) → v.functions i ≡ Some f → f.kind ≡ LocalFunction b → (IsWellFormed c v f.ty b → ⊥) → HasUnspelled c v

-- ---- TooLarge: a count, a size or a limit past 32 bits

-- There is a module of indices that says the same: no section of its own is called as the name and the producers section are. Of other
-- modules it isn't said how large they come out.
abbrev pub IsSayable : Abstract → Type 0
IsSayable v = (s : Custom) → Contains v.customs s → (s.name ≢ codes "name") × (s.name ≢ codes "producers")

-- All that is live, numbered as emission does, has a section that doesn't fit. Where something that isn't there is named, its number is open,
-- and so is how large what names it comes out.
pub record WritesUnfit (c : Config) (v : Abstract) : Type 0 where
  pub module_out : Abstract
  pub written : IsWrittenAs c v module_out
  pub unfit : HasUnfit module_out

-- 32-bit limits; in memory they may be larger than 32 bits hold
abbrev pub PassesLimit : Limits → Type 0
PassesLimit l = (l.wide ≡ false) × ((2 ^ 32 ≤ l.minimum) ⊎ ((n : ℕ) × ((l.maximum ≡ Some n) × (2 ^ 32 ≤ n))))

-- a count, a size or a limit of the module in memory passes 32 bits: an index space has 2 ^ 32 items, a body too many locals, a 32-bit table or memory a
-- limit of 2 ^ 32 or more, or, where it names nothing dead, a section of what it is written as does not fit
pub data PassesLimits (c : Config) (v : Abstract) : Type 0 where
  ManyItems : (space : Space) (numbers : List ℕ) → AllPairs (λ i j. i < j) numbers → All (Has v space) numbers → 2 ^ 32 ≤ length numbers → PassesLimits c v
  ManyLocals : (f : ℕ) (b : Body) (further : List ℕ) → body_of v f ≡ Some b → AllPairs (λ (x : ℕ) (y : ℕ). x ≢ y) further → All (IsUsed b) further → All (λ (x : ℕ). Contains b.parameters x → ⊥) further → (2 ^ 32 ≤ length further) ⊎ (2 ^ 32 < length (b.parameters ++ further)) → PassesLimits c v
  TableLimit : (i : ℕ) (t : Table) → v.tables i ≡ Some t → PassesLimit t.ty.limits → PassesLimits c v
  MemoryLimit : (i : ℕ) (t : model.Memory) → v.memories i ≡ Some t → PassesLimit t.ty.limits → PassesLimits c v
  Unfit : (HasDead v → ⊥) → WritesUnfit c v → PassesLimits c v

-- ---- what is answered

pub data Refusal : Type 0 where
  Memory DeadItem NoIndex TwoIndices TooLarge NotWritable Caller Another : Refusal

-- there is no cause to refuse
pub record HasNoCause (c : Config) (v : Abstract) : Type 0 where
  pub all_there : HasDead v → ⊥
  pub one_index : HasTwoIndices v → ⊥
  pub indices : LacksIndex v → ⊥
  pub spelled : HasUnspelled c v → ⊥
  pub fits : PassesLimits c v → ⊥

-- each refusal comes with a cause of its own, and where one stands, it is refused; `Asked` says that a section whose
-- data is asked for may refuse (`Custom` can't tell: of two sections with one name and one data one may, the other not)
abbrev pub RefusesToWrite : {X : Type 0} → (Asked : Type 0) → Config → Abstract → Result X Refusal → Type 0
RefusesToWrite Asked c v (Ok x) = HasNoCause c v
RefusesToWrite Asked c v (Err DeadItem) = HasDead v
RefusesToWrite Asked c v (Err TwoIndices) = HasTwoIndices v
RefusesToWrite Asked c v (Err NoIndex) = LacksIndex v
RefusesToWrite Asked c v (Err NotWritable) = HasUnspelled c v
RefusesToWrite Asked c v (Err TooLarge) = (HasTwoIndices v → ⊥) × (LacksIndex v → ⊥) × (IsSayable v → PassesLimits c v)
RefusesToWrite Asked c v (Err Caller) = Asked
RefusesToWrite Asked c v (Err Memory) = ⊤
RefusesToWrite Asked c v (Err Another) = ⊥
