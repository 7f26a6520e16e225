-- Lists of what is told of a module, as bytes.
use Rattle.std.specs.Prelude.{ℕ, List, Contains, flat_map, ◌≡◌}

module _ {T : Type 0} (IsLong : T → Type 0) where
  -- one of these is too long for its bytes
  abbrev pub HasLong : List T → Type 0
  HasLong all = (x : T) × Contains all x × IsLong x

  -- none of these is
  abbrev pub NoneLong : List T → Type 0
  NoneLong all = (x : T) → Contains all x → IsLong x → ⊥

  module _ (Is : List T → Type 0) where
    -- the bytes are those of such a list, one behind another, and none is too long for them
    pub record AreSpelled (spell : T → List ℕ) (list : List ℕ) : Type 0 where
      pub told : List T
      pub listed : Is told
      pub is : list ≡ flat_map spell told
      pub fits : NoneLong told

    -- of such a list one is too long for its bytes
    pub record AreLong : Type 0 where
      pub told : List T
      pub listed : Is told
      pub long : HasLong told
