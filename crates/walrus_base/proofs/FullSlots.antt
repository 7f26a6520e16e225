-- Slots that each have an item.
use Rattle.std.proofs.Common.{◌≡◌, ℕ, zero, suc, ◌+◌, ◌<◌, ◌≤◌, Bool, List, [], ◌∷◌, ◌++◌, length, map, set, cond, refl, ap, sym, ◌∙◌, arith}
use Rattle.std.proofs.lemmas.Bool.{eq-eqb, eqb-true, lt-ltb, ltb-true}
use Rattle.std.proofs.lemmas.List.{map-set}
use Rattle.std.proofs.lemmas.List.Sums.{sum_by-cons}
use Rattle.std.specs.Prelude.{Option, Some, IsTrue, ◌↔◌, count_by, is_some, nat_lt, nat_eq}
use Rattle.std.specs.List.{range_with_len}
use Rattle.walrus_base.specs.Arena.{IsLive, entries_from, items, live_places}
use Rattle.walrus_base.specs.Id.{place}
use Rattle.walrus_base.specs.TypeDef.{places_between}
use Rattle.walrus_base.specs.declared.id.Id.{Id}
use Rattle.walrus_base.proofs.Places.{next_ids_done}

one_more : (n : ℕ) → 1 + n ≡ suc n
one_more n = omega arith

module _ {T : Type 0} where
  places_from : (k : ℕ) (xs : List T) → map (λ e. e.0) (entries_from k (map Some xs)) ≡ range_with_len k (length xs)
  places_from k [] = refl
  places_from k (x ∷ xs) = ap (λ (ps : List ℕ). k ∷ ps) (places_from (k + 1) xs)

  items_from : (k : ℕ) (xs : List T) → map (λ e. e.1) (entries_from k (map Some xs)) ≡ xs
  items_from k [] = refl
  items_from k (x ∷ xs) = ap (λ (ys : List T). x ∷ ys) (items_from (k + 1) xs)

  -- all places are live, and their items are all items
  pub full_places : (xs : List T) → live_places (map Some xs) ≡ range_with_len 0 (length xs)
  full_places xs = places_from 0 xs

  pub full_items : (xs : List T) → items (map Some xs) ≡ xs
  full_items xs = items_from 0 xs

  pub full_count : (xs : List T) → count_by is_some (map Some xs) ≡ length xs
  full_count [] = refl
  full_count (x ∷ xs) = sum_by-cons (λ (s : Option T). cond (is_some s) 1 0) (Some x) (map Some xs) ∙ ap (λ (n : ℕ). 1 + n) (full_count xs) ∙ one_more (length xs)

  -- whether there is none
  pub full_empty : (xs : List T) (b : Bool) (long : ℕ) → b ≡ nat_eq long 0 → long ≡ length xs → IsTrue b ↔ (count_by is_some (map Some xs) ≡ 0)
  full_empty xs b long is all =
      (λ t. let none : long ≡ 0 = eqb-true long 0 (sym is ∙ t) in full_count xs ∙ sym all ∙ none, λ none. is ∙ eq-eqb long 0 (all ∙ sym (full_count xs) ∙ none))

  -- a place is live if it is below their number
  live_within : (xs : List T) (p : ℕ) → IsLive (map Some xs) p → p < length xs
  live_within [] p live = absurd cc
  live_within (x ∷ xs) zero live = omega arith
  live_within (x ∷ xs) (suc p) live = let lt : p < length xs = live_within xs p live in omega (arith, lt)

  within_live : (xs : List T) (p : ℕ) → p < length xs → IsLive (map Some xs) p
  within_live [] p lt = absurd (omega (arith, lt))
  within_live (x ∷ xs) zero lt = refl
  within_live (x ∷ xs) (suc p) lt = within_live xs p (omega (arith, lt))

  pub live_below : (xs : List T) (p at long : ℕ) → at ≡ p → long ≡ length xs → IsTrue (nat_lt at long) ↔ IsLive (map Some xs) p
  live_below xs p at long same all =
      (λ t. let lt : at < long = ltb-true at long t in within_live xs p (omega (arith, lt, same, all)), λ live. let lt : p < length xs = live_within xs p live in lt-ltb at long (omega (arith, lt, same, all)))

  -- ids for all places, one after another
  pub full_ids : {K : Type 0} (ids : List (Id K)) (xs : List T) (now end : ℕ) → end ≤ now → end ≡ length xs → map (λ id. place id) ids ++ places_between now end ≡ places_between 0 end → map (λ id. place id) ids ≡ live_places (map Some xs)
  full_ids ids xs now end done all so_far = next_ids_done ids 0 now end (length xs) 0 done (omega (arith, all)) refl so_far ∙ sym (full_places xs)

  -- another item in the place of one
  pub full_set : (xs : List T) (p : ℕ) (x : T) → map Some (set xs p x) ≡ set (map Some xs) p (Some x)
  full_set xs p x = map-set (λ (y : T). Some y) xs p x
