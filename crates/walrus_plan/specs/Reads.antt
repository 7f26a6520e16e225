-- What initialisers read, in the order in which globals are written ("Validation > Modules > Globals", "Tables").
use Rattle.std.specs.Prelude.{ℕ, Bool, true, not, ◌||◌, nat_lt, List, Option, Some, None, ◌≡◌, ◌⊎◌}
use Rattle.std.specs.List.{list_all}
use Rattle.walrus_base.specs.Arena.{item_at}
use Rattle.walrus_base.specs.Operators.{Tables, Globals, Item}
use Rattle.walrus_items.specs.Globals.{GlobalValue, global_init}
use Rattle.walrus_items.specs.declared.kinds.GlobalKind.{GlobalKind}
use Rattle.walrus_model.specs.Abstract.{Abstract}
use Rattle.walrus_model.specs.Live.{IsLive}
use Rattle.walrus_model.specs.Order.{ByImport}
use Rattle.walrus_model.specs.Rules.{IsImportedGlobal}
use Rattle.walrus_theorem.specs.Refused.{GlobalReads, TableReads}
use Rattle.walrus_plan.specs.Local.{is_own}

-- a table's initialiser reads imported globals alone
abbrev pub AreReadImported : Abstract → Type 0
AreReadImported v = (i g : ℕ) → TableReads v i g → IsLive v (Globals, g) → IsImportedGlobal v g

-- a global's initialiser reads imported globals and those that are written before it
abbrev pub AreReadEarlier : Abstract → Type 0
AreReadEarlier v = (i g : ℕ) → GlobalReads v i g → IsLive v (Globals, g) → IsImportedGlobal v g ⊎ ByImport v Globals g i

pub record ReadsInOrder (v : Abstract) : Type 0 where
  pub tables : AreReadImported v
  pub globals : AreReadEarlier v

-- ---- for the functions inside

-- a global at a place, if one is there, may be read by those from a place on: an import brings it, or it comes before
abbrev pub may_read : (from place : ℕ) → Option GlobalValue → Bool
may_read from place None = true
may_read from place (Some g) = not (is_own g.imported_by) || nat_lt place from

-- so may an item that is named; what is no global isn't read
abbrev pub may_name : List (Option GlobalValue) → (from : ℕ) → Item → Bool
may_name slots from (Globals, g) = may_read from g (item_at slots g)
may_name slots from item = true

-- so may all that is named
abbrev pub may_name_all : List (Option GlobalValue) → (from : ℕ) → List Item → Bool
may_name_all slots from named = list_all (may_name slots from) named

-- it is of a kind that can have an initialiser: a table or a global
abbrev pub HasInitialiser : Item → Type 0
HasInitialiser (Tables, i) = Unit {0}
HasInitialiser (Globals, i) = Unit {0}
HasInitialiser item = ⊥

-- the global at a place is of this kind
pub record IsOfKind (slots : List (Option GlobalValue)) (i : ℕ) (k : GlobalKind) : Type 0 where
  pub value : GlobalValue
  pub there : item_at slots i ≡ Some value
  pub initialiser : value.initialiser ≡ global_init k
