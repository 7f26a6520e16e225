-- The ids of a module by their numbers, as they are told.
use Rattle.std.proofs.Common.{◌≡◌, ℕ, ◌<◌, ◌^◌, Bool, true, false, List, Some, None, cond, refl, ap, subst, ◌∙◌}
use Rattle.std.specs.Prelude.{slice_get, nat_lt}
use Rattle.std.specs.List.{range_with_len}
use mathlib.Core.Path.{fun_ext}
use Rattle.walrus_base.specs.Operators.{Space, Types, Functions, Tables, Memories, Tags, Globals, Elements, DataSegments}
use Rattle.walrus_code.specs.Indices.{ids_at, index_in, index_of, places_in, places_of}
use Rattle.walrus_code.specs.declared.indices.IndicesToIds.{IndicesToIds}
use Rattle.walrus_code.specs.declared.numbering.IdsToIndices.{IdsToIndices}
use Rattle.walrus_contents.specs.declared.parts.Contents.{Contents}
use Rattle.walrus_items.specs.declared.error.Error.{Error}
use Rattle.walrus_model.proofs.PlacedTypes.{below_by}
use Rattle.walrus_edit_list.specs.Ids.{HasTooMany, given, ids_of}
use Rattle.walrus_edit_list.specs.Joined.{IsPlaceItself, LeadsToItself}
use Rattle.walrus_edit_list.specs.Refuses.{Refuses}
use Rattle.walrus_edit_list.proofs.Refusing.{refuses_so}

module _ (m : Contents) where
  -- where each space has the ids that were given, each number finds its own
  pub numbered : (ids : IndicesToIds) → places_of ids.types ≡ range_with_len 0 (given m Types) → places_of ids.functions ≡ range_with_len 0 (given m Functions)
      → places_of ids.tables ≡ range_with_len 0 (given m Tables) → places_of ids.memories ≡ range_with_len 0 (given m Memories)
      → places_of ids.tags ≡ range_with_len 0 (given m Tags) → places_of ids.globals ≡ range_with_len 0 (given m Globals)
      → places_of ids.elements ≡ range_with_len 0 (given m Elements) → places_of ids.data_ ≡ range_with_len 0 (given m DataSegments) → ids_at ids ≡ ids_of m
  numbered ids types functions tables memories tags globals elements segments =
      fun_ext (λ space. fun_ext (λ i. ap (λ (l : List ℕ). slice_get l i) (each space) ∙ below_by (given m space) i (nat_lt i (given m space)) refl)) where
        each : (space : Space) → places_in ids space ≡ range_with_len 0 (given m space)
        each Types = types
        each Functions = functions
        each Tables = tables
        each Memories = memories
        each Tags = tags
        each Globals = globals
        each Elements = elements
        each DataSegments = segments

  -- where those of a space are too many, they are
  pub too_many : (space : Space) (count : ℕ) (e : Error) → count ≡ given m space → Refuses ⊥ (2 ^ 32 < count) e → Refuses ⊥ (HasTooMany m) e
  too_many space count e is h = refuses_so e (λ none. none) (λ large. (space, subst (λ (n : ℕ). 2 ^ 32 < n) is large)) h

below_itself : (count n found : ℕ) (t : Bool) → nat_lt n count ≡ t → cond t (Some n) None ≡ Some found → found ≡ n
below_itself count n found true low is = cc
below_itself count n found false high is = absurd (cc)

-- each id that was given is that of its number
pub given_itself : (m : Contents) → LeadsToItself (ids_of m)
given_itself m space n found is = below_itself (given m space) n found (nat_lt n (given m space)) refl is

-- where each space leads to itself, all do
pub all_lead : (indices : IdsToIndices) → IsPlaceItself (index_in indices.types) → IsPlaceItself (index_in indices.functions) → IsPlaceItself (index_in indices.tables) → IsPlaceItself (index_in indices.memories)
    → IsPlaceItself (index_in indices.tags) → IsPlaceItself (index_in indices.globals) → IsPlaceItself (index_in indices.elements) → IsPlaceItself (index_in indices.data_) → LeadsToItself (index_of indices)
all_lead indices types functions tables memories tags globals elements data_ Types = types
all_lead indices types functions tables memories tags globals elements data_ Functions = functions
all_lead indices types functions tables memories tags globals elements data_ Tables = tables
all_lead indices types functions tables memories tags globals elements data_ Memories = memories
all_lead indices types functions tables memories tags globals elements data_ Tags = tags
all_lead indices types functions tables memories tags globals elements data_ Globals = globals
all_lead indices types functions tables memories tags globals elements data_ Elements = elements
all_lead indices types functions tables memories tags globals elements data_ DataSegments = data_
