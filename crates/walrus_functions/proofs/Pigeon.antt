-- Distinct numbers in a range are no more than it holds.
use Rattle.std.proofs.Common.{◌≡◌, ℕ, zero, suc, ◌+◌, ◌<◌, ◌≤◌, List, [], ◌∷◌, length, map, refl, sym, ap, ◌∙◌, subst, arith, inl, inr}
use Rattle.std.specs.Prelude.{AllPairs, All}
use Rattle.std.proofs.lemmas.List.Elements.{recursion_from_All}
use Rattle.walrus_functions.proofs.LawOrder.{In, Sorted, sorted_of}
use Rattle.walrus_base.proofs.SameVal.{Told, told_nat}
use Rattle.walrus_functions.proofs.SpaceList.{look_up}

abbrev pub Distinct : List ℕ → Type 0
Distinct [] = Unit {0}
Distinct (x ∷ xs) = (In x xs → ⊥) × Distinct xs

-- the list without k, if k stands there
abbrev Found : ℕ → List ℕ → Type 0
Found k xs = (ys : List ℕ) × (Distinct ys × (((z : ℕ) → In z ys → In z xs × (z ≡ k → ⊥)) × (length xs ≤ suc (length ys))))

module _ (k : ℕ) where
  found_next : (x : ℕ) (xs : List ℕ) → (In x xs → ⊥) → Distinct xs → Told (x ≡ k) → Found k xs → Found k (x ∷ xs)
  found_next x xs away d (inl e) rest = (xs, (d, ((λ z h. (inr h, λ q. away (subst (λ y. In y xs) (q ∙ sym e) h))), omega arith)))
  found_next x xs away d (inr a) (ys, (dy, (within, long))) = (x ∷ ys, (((λ h. away (within x h).0), dy), (at, omega (arith, long))))
    where
      at : (z : ℕ) → In z (x ∷ ys) → In z (x ∷ xs) × (z ≡ k → ⊥)
      at z (inl e) = (inl e, λ q. a (e ∙ q))
      at z (inr h) = (inr (within z h).0, (within z h).1)

  found : (xs : List ℕ) → Distinct xs → Found k xs
  found [] d = ([], (tt, ((λ z h. absurd h), omega arith)))
  found (x ∷ xs) d = found_next x xs d.0 d.1 (told_nat x k) (found xs d.1)

pub pigeon : (lo k : ℕ) (xs : List ℕ) → Distinct xs → ((z : ℕ) → In z xs → (lo ≤ z) × (z < lo + k)) → length xs ≤ k
pigeon lo zero [] d low = omega arith
pigeon lo zero (x ∷ xs) d low = let h = low x (inl refl) in absurd (omega (arith, h.0, h.1))
pigeon lo (suc k) xs d low =
    let f = found (lo + k) xs d in
    let rest : length f.0 ≤ k = pigeon lo k f.0 f.1.0 (λ z h. let i = f.1.1.0 z h in let l = low z i.0 in (l.0, below z l.1 i.1)) in
    omega (arith, rest, f.1.1.1)
  where
    below : (z : ℕ) → z < lo + suc k → (z ≡ lo + k → ⊥) → z < lo + k
    below z lt away = omega (arith, lt, away)

-- ---- lists of distinct numbers, put through a map

pub in_map : (g : ℕ → ℕ) (xs : List ℕ) (z : ℕ) → In z (map g xs) → (x : ℕ) × (In x xs × (g x ≡ z))
in_map g [] z h = absurd h
in_map g (x ∷ xs) z (inl e) = (x, (inl refl, e))
in_map g (x ∷ xs) z (inr h) = let r = in_map g xs z h in (r.0, (inr r.1.0, r.1.1))

pub map_in : (g : ℕ → ℕ) (xs : List ℕ) (x : ℕ) → In x xs → In (g x) (map g xs)
map_in g [] x h = absurd h
map_in g (y ∷ ys) x (inl e) = inl (ap g e)
map_in g (y ∷ ys) x (inr h) = inr (map_in g ys x h)

pub distinct_map : (g : ℕ → ℕ) (xs : List ℕ) → Distinct xs → ((x y : ℕ) → In x xs → In y xs → g x ≡ g y → x ≡ y) → Distinct (map g xs)
distinct_map g [] d one = tt
distinct_map g (x ∷ xs) d one = (
  (λ h. let r = in_map g xs (g x) h in d.0 (subst (λ z. In z xs) (one r.0 x (inr r.1.0) (inl refl) r.1.1) r.1.0)),
  distinct_map g xs d.1 (λ y z hy hz e. one y z (inr hy) (inr hz) e),
)

pub distinct_unmap : (g : ℕ → ℕ) (xs : List ℕ) → Distinct (map g xs) → Distinct xs
distinct_unmap g [] d = tt
distinct_unmap g (x ∷ xs) d = ((λ h. d.0 (map_in g xs x h)), distinct_unmap g xs d.1)

sorted_distinct : (R : ℕ → ℕ → Type 0) → ((x : ℕ) → R x x → ⊥) → (xs : List ℕ) → Sorted R xs → Distinct xs
sorted_distinct R away [] s = tt
sorted_distinct R away (x ∷ xs) s = ((λ h. away x (look_up (R x) xs x s.0 h)), sorted_distinct R away xs s.1)

pub rising_distinct : (xs : List ℕ) → AllPairs (λ x y. x < y) xs → Distinct xs
rising_distinct xs h = sorted_distinct (λ x y. x < y) (λ x lt. omega (arith, lt)) xs (sorted_of (λ x y. x < y) xs h)

pub apart_distinct : (xs : List ℕ) → AllPairs (λ x y. x ≡ y → ⊥) xs → Distinct xs
apart_distinct xs h = sorted_distinct (λ x y. x ≡ y → ⊥) (λ x away. away refl) xs (sorted_of (λ x y. x ≡ y → ⊥) xs h)

pub all_in : (P : ℕ → Type 0) (xs : List ℕ) → All P xs → (z : ℕ) → In z xs → P z
all_in P xs h z i = look_up P xs z (recursion_from_All P xs h) i

-- numbers below k, no two of them of one item
pub counted : (k : ℕ) (g : ℕ → ℕ) (xs : List ℕ) → Distinct xs → ((x y : ℕ) → In x xs → In y xs → g x ≡ g y → x ≡ y) → ((x : ℕ) → In x xs → g x < k) → length xs ≤ k
counted k g xs d one low = subst (λ n. n ≤ k) (long g xs) (pigeon 0 k (map g xs) (distinct_map g xs d one) (λ z h. let r = in_map g xs z h in (omega arith, from_zero z (subst (λ y. y < k) r.1.1 (low r.0 r.1.0)))))
  where
    from_zero : (z : ℕ) → z < k → z < 0 + k
    from_zero z lt = omega (arith, lt)

    long : (g : ℕ → ℕ) (xs : List ℕ) → length (map g xs) ≡ length xs
    long g [] = refl
    long g (x ∷ xs) = ap suc (long g xs)
