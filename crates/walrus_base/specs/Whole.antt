-- Groups that are there whole.
use Rattle.std.specs.Prelude.{◌≡◌, ℕ, Bool, List, Option, Some, option_map, IsTrue}
use Rattle.walrus_base.specs.Arena.{item_at}
use Rattle.walrus_base.specs.PlaceList.{has}
use Rattle.walrus_base.specs.TypeDef.{TypeDef}

-- each type is a member of its group, and each member of its group is there and has the same group
pub record AreWhole (slots : List (Option TypeDef)) : Type 0 where
  pub own : (t : ℕ) (x : TypeDef) → item_at slots t ≡ Some x → IsTrue (has x.group t)
  pub members : (t : ℕ) (x : TypeDef) → item_at slots t ≡ Some x → (p : ℕ) → IsTrue (has x.group p) → option_map (λ y. y.group) (item_at slots p) ≡ Some x.group

-- where a type is kept, all members of its group are
abbrev pub KeepsGroups : (keeps : ℕ → Bool) → List (Option TypeDef) → Type 0
KeepsGroups keeps slots = (t : ℕ) (x : TypeDef) → item_at slots t ≡ Some x → IsTrue (keeps t) → (p : ℕ) → IsTrue (has x.group p) → IsTrue (keeps p)
