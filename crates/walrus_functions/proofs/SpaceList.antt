-- Lists of numbers in order that have the same elements are one.
use Rattle.std.proofs.Common.{◌≡◌, ℕ, ◌<◌, List, [], ◌∷◌, refl, sym, ap₂, ◌∙◌, subst, arith, inl, inr}
use Rattle.std.specs.Prelude.{Contains, AllPairs}
use Rattle.std.specs.List.{AllByRecursion}
use Rattle.walrus_functions.proofs.LawOrder.{In, contains_in, in_contains, Sorted, sorted_of}

-- ---- elements

pub look_up : (P : ℕ → Type 0) (xs : List ℕ) (x : ℕ) → AllByRecursion P xs → In x xs → P x
look_up P [] x all is = absurd is
look_up P (y ∷ ys) x all (inl is) = subst P is all.0
look_up P (y ∷ ys) x all (inr is) = look_up P ys x all.1 is

behind_head : (y z : ℕ) (ys : List ℕ) → In z (y ∷ ys) → (y ≡ z → ⊥) → In z ys
behind_head y z ys (inl is) apart = absurd (apart is)
behind_head y z ys (inr is) apart = is

module _ (R : ℕ → ℕ → Type 0) (turn : (x y : ℕ) → R x y → R y x → ⊥) where
  heads : (x y : ℕ) (xs ys : List ℕ) → AllByRecursion (R x) xs → AllByRecursion (R y) ys → In x (y ∷ ys) → In y (x ∷ xs) → y ≡ x
  heads x y xs ys r s (inl is) has = is
  heads x y xs ys r s (inr h) (inl is) = sym is
  heads x y xs ys r s (inr h) (inr k) = absurd (turn x y (look_up (R x) xs y r k) (look_up (R y) ys x s h))

  not_head : (x y z : ℕ) (xs : List ℕ) → x ≡ y → AllByRecursion (R x) xs → In z xs → y ≡ z → ⊥
  not_head x y z xs same r has is = let own : R x x = subst (R x) (sym is ∙ sym same) (look_up (R x) xs z r has) in turn x x own own

  pub one_list : (xs ys : List ℕ) → Sorted R xs → Sorted R ys → ((z : ℕ) → In z xs → In z ys) → ((z : ℕ) → In z ys → In z xs) → ys ≡ xs
  one_list [] [] r s there back = refl
  one_list [] (y ∷ ys) r s there back = absurd (back y (inl refl))
  one_list (x ∷ xs) [] r s there back = absurd (there x (inl refl))
  one_list (x ∷ xs) (y ∷ ys) r s there back =
      let same : y ≡ x = heads x y xs ys r.0 s.0 (there x (inl refl)) (back y (inl refl)) in
      ap₂ ◌∷◌ same (one_list xs ys r.1 s.1
      (λ z has. behind_head y z ys (there z (inr has)) (not_head x y z xs (sym same) r.0 has))
      (λ z has. behind_head x z xs (back z (inr has)) (not_head y x z ys same s.0 has)))

pub one_rising : (xs ys : List ℕ) → AllPairs (λ x y. x < y) xs → AllPairs (λ x y. x < y) ys → ((z : ℕ) → Contains xs z → Contains ys z) → ((z : ℕ) → Contains ys z → Contains xs z) → ys ≡ xs
one_rising xs ys r s there back =
    one_list (λ x y. x < y) (λ x y h k. omega (arith, h, k)) xs ys (sorted_of (λ x y. x < y) xs r) (sorted_of (λ x y. x < y) ys s)
    (λ z has. contains_in ys z (there z (in_contains xs z has)))
    (λ z has. contains_in xs z (back z (in_contains ys z has)))
