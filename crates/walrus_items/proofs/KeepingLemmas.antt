-- How the items that stay are found, place by place.
use Rattle.std.proofs.Common.{◌≡◌, ℕ, zero, suc, ◌+◌, Bool, List, [], ◌∷◌, length, set, Option, refl, ap, ◌∙◌, add-one}
use Rattle.std.proofs.lemmas.List.{length-set}
use Rattle.walrus_base.specs.Arena.{item_at}
use Rattle.walrus_items.specs.Keeping.{kept_slot, kept_where}

module _ {T : Type 0} (stays : T → Bool) where
  -- the first places are done, the others are still to be
  abbrev pub kept_behind : ℕ → List (Option T) → List (Option T)
  kept_behind zero xs = kept_where stays xs
  kept_behind (suc i) [] = []
  kept_behind (suc i) (x ∷ xs) = x ∷ kept_behind i xs

  one_done : (i : ℕ) (xs : List (Option T)) → kept_behind (suc i) (set xs i (kept_slot stays (item_at xs i))) ≡ kept_behind i xs
  one_done zero [] = refl
  one_done zero (x ∷ xs) = refl
  one_done (suc i) [] = refl
  one_done (suc i) (x ∷ xs) = ap (λ (ys : List (Option T)). x ∷ ys) (one_done i xs)

  -- one more place is done
  pub kept_turn : (i : ℕ) (xs now all : List (Option T)) (n : ℕ) → now ≡ set xs i (kept_slot stays (item_at xs i))
      → (length xs ≡ n) × (kept_behind i xs ≡ all) → (length now ≡ n) × (kept_behind (i + 1) now ≡ all)
  kept_turn i xs now all n is so_far = rw (is, add-one i) (length-set xs i (kept_slot stays (item_at xs i)) ∙ so_far.0, one_done i xs ∙ so_far.1)

  -- all places are done
  pub kept_all : (i : ℕ) (xs : List (Option T)) → i ≡ length xs → kept_behind i xs ≡ xs
  kept_all zero [] h = refl
  kept_all zero (x ∷ xs) h = absurd cc
  kept_all (suc i) [] h = refl
  kept_all (suc i) (x ∷ xs) h = ap (λ (ys : List (Option T)). x ∷ ys) (kept_all i xs cc)
