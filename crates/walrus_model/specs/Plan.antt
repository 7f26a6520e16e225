-- In which order the items of each space are written, and what is written along it.
use Rattle.std.specs.Prelude.{ℕ, List, Option, Some, IsSome, AllPairs, slice_get, unwrap_or, ◌≡◌}
use Rattle.std.specs.List.{AllZip}
use Rattle.walrus_base.specs.Operators.{Space}
use Rattle.walrus_base.specs.Shape.{place_in}
use Rattle.walrus_model.specs.Abstract.{Abstract, ImportedBy}
use Rattle.walrus_model.specs.Order.{ByImport}
use Rattle.walrus_model.specs.Ordered.{Ordered, StandsFor}
use Rattle.walrus_model.specs.Renaming.{Renaming}
use Rattle.walrus_model.specs.Spaces.{Thing, look, SameThing, origin_in}

-- the places of each space, in the order in which they are written
abbrev pub Plan : Type 0
Plan = Space → List ℕ

-- what stands there is imported; and it is there, and isn't
abbrev pub IsImportedIn : Abstract → Space → ℕ → Type 0
IsImportedIn v s p = (x : Thing s) × (look v s p ≡ Some x) × ((k : ℕ) × (origin_in s x ≡ Some (ImportedBy k)))

abbrev pub IsOwnIn : Abstract → Space → ℕ → Type 0
IsOwnIn v s p = IsSome (look v s p) × (IsImportedIn v s p → ⊥)

-- the indices that a plan gives (as `Lookup` of walrus_code: Space → ℕ → Option ℕ)
abbrev pub AreNumbered : (Space → ℕ → Option ℕ) → Plan → Type 0
AreNumbered names plan = (s : Space) (p : ℕ) → names s p ≡ place_in (plan s) p

-- a renaming by look-up
abbrev pub numbers_by : (Space → ℕ → Option ℕ) → Space → ℕ → ℕ
numbers_by names s p = unwrap_or (names s p) 0

-- each space's items stand in the plan once, in order
pub record IsPlan (v : Abstract) (plan : Plan) : Type 0 where
  pub holds : (s : Space) → Ordered (look v s) (plan s)
  pub sorted : (s : Space) → AllPairs (ByImport v s) (plan s)

-- n holds what is written along the plan, thing by thing
pub record IsWrittenAlong (r : Renaming) (v n : Abstract) (plan : Plan) (s : Space) : Type 0 where
  pub written : List (Thing s)
  pub reads : (j : ℕ) → look n s j ≡ slice_get written j
  pub stand : AllZip (StandsFor (SameThing r s) (look v s)) (plan s) written
