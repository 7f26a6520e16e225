-- The members of a group that are to be added.
use Rattle.std.proofs.Common.{◌≡◌, ℕ, List, [], ◌∷◌, ◌++◌, map, Option, Some, ap, ◌∙◌, append_assoc}
use Rattle.walrus_base.specs.Composite.{new_sub}
use Rattle.walrus_base.specs.TypeDef.{TypeDef, places_between}
use Rattle.walrus_base.specs.declared.composite.NewType.{NewType}

-- members of a group with the places from the first on, up to the end
abbrev pub new_members : (first end : ℕ) → List NewType → List (Option TypeDef)
new_members first end members = map (λ member. Some (record { group = places_between first end; sub = new_sub member })) members

-- one more of a row is done
pub shift : {X : Type 0} (before now rest all : List X) (x : X) → before ++ x ∷ rest ≡ all → now ≡ before ++ x ∷ [] → now ++ rest ≡ all
shift before now rest all x so_far more = ap (λ xs. xs ++ rest) more ∙ append_assoc before (x ∷ []) rest ∙ so_far
