-- What is put back at a place of a collection.
use Rattle.std.proofs.Common.{◌≡◌, ℕ, ◌<◌, ◌≤◌, zero, suc, List, [], ◌∷◌, length, map, get_or, ap, sym, subst, ◌∙◌, arith}
use Rattle.std.specs.Prelude.{Option, Some, None, IsSome, option_map, slice_set}
use Rattle.std.proofs.lemmas.List.{get_or-map, map-set}
use Rattle.walrus_base.specs.Arena.{IsLive, item_at}
use Rattle.walrus_edit_list.specs.Places.{ChangesAt, DeletesAt, IsGone}

-- where an item stood, and it is put back changed
pub changed : {T V : Type 0} (value : T → V) (change : V → V) (slots : List (Option T)) (i at : ℕ) (last : T) (v : V) → i ≡ at
    → item_at (map (option_map value) slots) i ≡ Some v → value last ≡ change v
    → ChangesAt at change (map (option_map value) slots) (map (option_map value) (slice_set slots i (Some last)))
changed {T} {V} value change slots i at last v same there is =
    subst (λ (n : ℕ). ChangesAt n change (map (option_map value) slots) (map (option_map value) (slice_set slots i (Some last)))) same
    (v, there, map-set (option_map value) slots i (Some last) ∙ ap (λ (x : V). slice_set (map (option_map value) slots) i (Some x)) is)

-- where an item stood, and nothing is put there
pub emptied : {T V : Type 0} (value : T → V) (slots : List (Option T)) (i : ℕ) → IsLive (map (option_map value) slots) i
    → DeletesAt i (map (option_map value) slots) (map (option_map value) (slice_set slots i None))
emptied value slots i live = (live, map-set (option_map value) slots i None)

module _ {T V : Type 0} (value : T → V) (slots : List (Option T)) (i : ℕ) (slot : Option T) (here : slot ≡ get_or slots i slot) where
  -- what is seen at a place of what stands there
  stands : i < length slots → item_at (map (option_map value) slots) i ≡ option_map value slot
  stands lt =
      get_or-map (option_map value) slots i slot None lt ∙ ap (option_map value) (sym here)

  -- what stood there, and is put back changed
  pub put : (change : V → V) (new : Option T) (was : V) → i < length slots → option_map value slot ≡ Some was → option_map value new ≡ Some (change was)
      → ChangesAt i change (map (option_map value) slots) (map (option_map value) (slice_set slots i new))
  put change new was lt there is =
      (was, stands lt ∙ there, map-set (option_map value) slots i new ∙ ap (λ (x : Option V). slice_set (map (option_map value) slots) i x) is)

  -- nothing stood there
  pub none_here : i < length slots → option_map value slot ≡ None → IsGone (map (option_map value) slots) i
  none_here lt none live = let no : IsSome {T = V} None = subst (λ (o : Option V). IsSome o) (stands lt ∙ none) live in absurd cc

-- nothing stands behind the end
pub none_behind : {T V : Type 0} (value : T → V) (slots : List (Option T)) (i : ℕ) → length slots ≤ i → IsGone (map (option_map value) slots) i
none_behind value [] i le live = absurd cc
none_behind value (x ∷ slots) zero le live = absurd (omega (arith, le))
none_behind value (x ∷ slots) (suc i) le live = none_behind value slots i (omega (arith, le)) live
