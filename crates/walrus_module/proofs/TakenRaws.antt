-- What is taken out place by place.
use Rattle.std.proofs.Common.{◌≡◌, ℕ, zero, suc, ◌+◌, ◌<◌, List, [], ◌∷◌, ◌++◌, map, drop, length, get_or, refl, sym, ap, ◌∙◌, arith}
use Rattle.std.specs.Prelude.{Option, None, slice_set}
use Rattle.std.proofs.lemmas.List.{append_assoc}
use Rattle.walrus_base.specs.Arena.{item_at}

module _ {A : Type 0} where
  -- what stands behind a place stays, whatever is set there
  behind_set : (xs : List A) (n : ℕ) (x : A) → drop (suc n) (slice_set xs n x) ≡ drop (suc n) xs
  behind_set [] n x = refl
  behind_set (y ∷ ys) zero x = refl
  behind_set (y ∷ ys) (suc n) x = behind_set ys n x

  from_place : (xs : List A) (n : ℕ) (d : A) → n < length xs → drop n xs ≡ get_or xs n d ∷ drop (suc n) xs
  from_place [] n d lt = absurd (omega (arith, lt))
  from_place (y ∷ ys) zero d lt = refl
  from_place (y ∷ ys) (suc n) d lt = from_place ys n d (omega (arith, lt))

module _ {A B : Type 0} (f : Option A → B) where
  -- one more was taken out
  pub turn : (xs left : List (Option A)) (n : ℕ) (done all : List B) → n < length xs → left ≡ slice_set xs n None → done ++ map f (drop n xs) ≡ all → (done ++ f (item_at xs n) ∷ []) ++ map f (drop (suc n) left) ≡ all
  turn xs left n done all lt set so =
      append_assoc done (f (item_at xs n) ∷ []) (map f (drop (suc n) left))
      ∙ ap (λ (ys : List (Option A)). done ++ f (item_at xs n) ∷ map f ys) (ap (λ (ys : List (Option A)). drop (suc n) ys) set ∙ behind_set xs n None)
      ∙ ap (λ (ys : List (Option A)). done ++ map f ys) (sym (from_place xs n None lt))
      ∙ so
