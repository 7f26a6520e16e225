-- What the functions that read types answer.
use Rattle.std.specs.Prelude.{◌≡◌, ◌≢◌, ◌++◌, ℕ, ⊤, List, [], ◌∷◌, All, length, Option, Some, None, Result, Ok, Err}
use Rattle.std.specs.List.{range_with_len}
use Rattle.wasm_forms.specs.Reading.{◌>>=◌}
use Rattle.walrus_base.specs.Types.{SubType}
use Rattle.walrus_base.specs.Operators.{Space, Types}
use Rattle.walrus_base.specs.TypeDef.{TypeDef}
use Rattle.walrus_code.specs.Indices.{places_in}
use Rattle.walrus_code.specs.Names.{Lookup}
use Rattle.walrus_code.specs.declared.error.IrError.{IrError}
use Rattle.walrus_code.specs.declared.error.IrError.TheVariants.{Malformed, Memory, NoIndex, NotWritable, TooLarge}
use Rattle.walrus_code.specs.declared.indices.IndicesToIds.{IndicesToIds}
use Rattle.walrus_groups.specs.Named.{named_comp}

-- each type has the place of its index, and all places have a type
abbrev pub TypesInPlace : IndicesToIds → List (Option TypeDef) → Type 0
TypesInPlace indices slots = places_in indices Types ≡ range_with_len 0 (length slots)

-- nothing but types has changed
abbrev pub OnlyTypesChange : IndicesToIds → IndicesToIds → Type 0
OnlyTypesChange old new = (other : Space) → other ≢ Types → places_in new other ≡ places_in old other

-- what stands of the names of types: more types, none of which has a name
pub record AddsUnnamed (old new : List (Option (Option (List ℕ)))) : Type 0 where
  pub more : List (Option (Option (List ℕ)))
  pub behind : new ≡ old ++ more
  pub unnamed : All (λ name. name ≡ Some None) more

-- refused only where they are too many, or memory ran out
abbrev pub RefusedAsTooMany : Result Unit IrError → (too_many : Type 0) → Type 0
RefusedAsTooMany (Ok u) too_many = ⊤
RefusedAsTooMany (Err TooLarge) too_many = too_many
RefusedAsTooMany (Err (Memory e)) too_many = ⊤
RefusedAsTooMany (Err Malformed) too_many = ⊥
RefusedAsTooMany (Err NoIndex) too_many = ⊥
RefusedAsTooMany (Err NotWritable) too_many = ⊥

-- ---- a member of a group with each index looked up

module _ (names : Lookup) where
  -- of which there is one at most
  abbrev pub one_supertype : List ℕ → Option (List ℕ)
  one_supertype [] = Some []
  one_supertype (t ∷ []) = names Types t >>= λ found. Some (found ∷ [])
  one_supertype (t ∷ u ∷ ts) = None

  abbrev pub read_sub : SubType ℕ → Option (SubType ℕ)
  read_sub s = one_supertype s.supertypes >>= λ supertypes. named_comp names s.comp >>= λ comp. Some (record { is_final = s.is_final; supertypes = supertypes; comp = comp })
