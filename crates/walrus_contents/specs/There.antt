-- What has to be there: what items, imports and exports name, and the locals that bodies use.
use Rattle.std.specs.Prelude.{ℕ, List, Some, None, IsSome, Contains, ◌≡◌, ◌≢◌, ⊤}
use Rattle.walrus_base.specs.Operators.{Space, Functions, Item}
use Rattle.walrus_model.specs.Abstract.{Abstract, Body, Uninitialised, LocalFunction, Function, Import, Export}
use Rattle.walrus_model.specs.Closed.{NamesAreLive}
use Rattle.walrus_model.specs.Live.{Has, IsLive}
use Rattle.walrus_model.specs.Names.{body_of}
use Rattle.walrus_model.specs.Refers.{IsUsed, written_in}
use Rattle.walrus_items.specs.declared.error.Error.{Error}
use Rattle.walrus_items.specs.declared.error.Error.TheVariants.{Memory, DeadItem}

-- what each import brings is there
abbrev pub ImportsAreLive : Abstract → Type 0
ImportsAreLive v = (i : ℕ) (x : Import) → v.imports i ≡ Some x → IsLive v x.item

-- the start function is there
abbrev pub StartIsLive : Abstract → Type 0
StartIsLive v = (f : ℕ) → v.start ≡ Some f → IsSome (v.functions f)

-- what items, imports and exports name is there, the locals that bodies use and the start function among it, and each function has an import
-- or a body
pub record IsThere (v : Abstract) : Type 0 where
  pub written : NamesAreLive v
  pub locals : (i : ℕ) (b : Body) (x : ℕ) → body_of v i ≡ Some b → IsUsed b x → IsSome (b.local_type x)
  pub exports : (e : Export) → Contains v.exports e → IsLive v e.item
  pub imports : ImportsAreLive v
  pub start : StartIsLive v
  pub initialised : (i : ℕ) (f : Function) → v.functions i ≡ Some f → f.kind ≢ Uninitialised

-- ---- item by item

-- the item is there; a function has an import or a body, and the locals that its body uses are there
pub record IsSound (v : Abstract) (x : Item) : Type 0 where
  pub live : IsLive v x
  pub initialised : (i : ℕ) (f : Function) → x ≡ (Functions, i) → v.functions i ≡ Some f → f.kind ≢ Uninitialised
  pub locals : (i : ℕ) (f : Function) (b : Body) (l : ℕ) → x ≡ (Functions, i) → v.functions i ≡ Some f → f.kind ≡ LocalFunction b → IsUsed b l → IsSome (b.local_type l)

-- it isn't: a function with neither an import nor a body, or one whose body uses a local that isn't there
pub data IsUnsound (v : Abstract) (x : Item) : Type 0 where
  NoBody : (i : ℕ) (f : Function) → x ≡ (Functions, i) → v.functions i ≡ Some f → f.kind ≡ Uninitialised → IsUnsound v x
  NoLocal : (i : ℕ) (f : Function) (b : Body) (l : ℕ) → x ≡ (Functions, i) → v.functions i ≡ Some f → f.kind ≡ LocalFunction b → IsUsed b l → b.local_type l ≡ None → IsUnsound v x

-- these items are there
abbrev pub AreLive : Abstract → List Item → Type 0
AreLive v named = (x : Item) → Contains named x → IsLive v x

-- one of them isn't
abbrev pub OneIsDead : Abstract → List Item → Type 0
OneIsDead v named = (x : Item) × (Contains named x × (IsLive v x → ⊥))

-- the item is sound, and what is written in it is there
pub record IsWhole (v : Abstract) (x : Item) : Type 0 where
  pub sound : IsSound v x
  pub written : AreLive v (written_in v x)

-- so is each item of an index space
abbrev pub AreWhole : Abstract → Space → Type 0
AreWhole v space = (i : ℕ) → Has v space i → IsWhole v (space, i)

-- ---- refusals

-- want of memory, or a reference to what isn't there, which comes only where P holds
abbrev pub IsRefusal : Type 0 → Error → Type 0
IsRefusal P (Memory e) = ⊤
IsRefusal P DeadItem = P
IsRefusal P _ = ⊥
