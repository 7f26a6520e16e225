-- The locals that a body declares when it is written ("Binary Format > Modules > Code Section"): those that it uses beside its
-- parameters, in one declaration for each type. Locals are told by their places, and `slots` has the type of each.
use Rattle.std.specs.Prelude.{◌≡◌, ◌≢◌, ◌<◌, ◌↔◌, ◌⊎◌, ℕ, List, map, flat_map, replicate, Option, Some, All, AllPairs, Contains}
use Rattle.walrus_base.specs.Arena.{item_at}
use Rattle.walrus_base.specs.Types.{ValType, I32, I64, F32, F64, V128, Ref}

-- the number types and the vector type by their bytes, from 7F down to 7B, and behind them all references
abbrev pub rank : ValType ℕ → ℕ
rank I32 = 0
rank I64 = 1
rank F32 = 2
rank F64 = 3
rank V128 = 4
rank (Ref r) = 5

module _ (slots : List (Option (ValType ℕ))) (used parameters : List ℕ) where
  abbrev pub HasType : ℕ → ValType ℕ → Type 0
  HasType x v = item_at slots x ≡ Some v

  -- a local that is there, is used, and is no parameter
  pub record IsDeclared (x : ℕ) : Type 0 where
    pub is_used : Contains used x
    pub no_parameter : Contains parameters x → ⊥
    pub ty : ValType ℕ
    pub typed : HasType x ty

  -- a declared local of the first type has a lower number than all those of the second
  abbrev pub BeginsBefore : ValType ℕ → ValType ℕ → Type 0
  BeginsBefore v w = (x : ℕ) × (IsDeclared x × HasType x v × ((y : ℕ) → IsDeclared y → HasType y w → x < y))

  -- types go by their rank, references by their lowest locals
  abbrev pub TypeGoesBefore : ValType ℕ → ValType ℕ → Type 0
  TypeGoesBefore v w = (rank v < rank w) ⊎ ((rank v ≡ rank w) × BeginsBefore v w)

  -- locals go by their types, those of one type by their numbers
  abbrev pub GoesBefore : ℕ → ℕ → Type 0
  GoesBefore x y = (v : ValType ℕ) × ((w : ValType ℕ) × (HasType x v × HasType y w × (TypeGoesBefore v w ⊎ ((v ≡ w) × (x < y)))))

  -- these are the declared locals, in their order
  pub record AreDeclared (order : List ℕ) : Type 0 where
    pub which : (x : ℕ) → Contains order x ↔ IsDeclared x
    pub sorted : AllPairs GoesBefore order

-- these declarations, each a count and a type, are one for each type of the locals in this order
pub record AreGrouped (slots : List (Option (ValType ℕ))) (order : List ℕ) (groups : List (ℕ × ValType ℕ)) : Type 0 where
  pub spread : map Some (flat_map (λ g. replicate g.0 g.1) groups) ≡ map (item_at slots) order
  pub apart : AllPairs (λ (g : ℕ × ValType ℕ) (h : ℕ × ValType ℕ). g.1 ≢ h.1) groups
  pub filled : All (λ (g : ℕ × ValType ℕ). 0 < g.0) groups

-- there is one order of the declared locals, and one list of declarations for it
abbrev pub DeclaredOnce : Type 0
DeclaredOnce = (slots : List (Option (ValType ℕ))) (used parameters order other : List ℕ) → AreDeclared slots used parameters order → AreDeclared slots used parameters other → other ≡ order

abbrev pub GroupedOnce : Type 0
GroupedOnce = (slots : List (Option (ValType ℕ))) (order : List ℕ) (groups others : List (ℕ × ValType ℕ)) → AreGrouped slots order groups → AreGrouped slots order others → others ≡ groups
