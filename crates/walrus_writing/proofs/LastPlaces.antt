-- Of a sorted list of pairs the last one of each first number.
use Rattle.std.proofs.Common.{◌≡◌, ◌⊎◌, inl, inr, ⊎_elim, ℕ, ◌<◌, ◌≤◌, Bool, true, false, cond, List, [], ◌∷◌, refl, sym, ap, ◌∙◌, subst, arith}
use Rattle.std.specs.Prelude.{AllPairs, Contains, nat_eq, not}
use Rattle.std.proofs.lemmas.Bool.Decides.{eqb_tells}
use Rattle.std.proofs.lemmas.List.Elements.{All-contains}
use Rattle.walrus_writing.specs.Located.{lasts, is_last_of}
use Rattle.walrus_base.proofs.Lists.{Contains-head, Contains-none, Contains-tail, Contains-uncons}
use Rattle.walrus_model.proofs.OrderOfPlaces.{pairs_head, pairs_tail}
use Rattle.walrus_model.proofs.RisingLists.{Rises, rises_cons}
use Rattle.wasm_operators.proofs.OneStands.{true_not_false as untrue}
use Rattle.std.proofs.lemmas.Bool.{false≢true as untrue'}

abbrev pub Pair : Type 0
Pair = ℕ × ℕ

abbrev pub NotAfter : Pair → Pair → Type 0
NotAfter a b = (a.0 < b.0) ⊎ ((a.0 ≡ b.0) × (a.1 ≤ b.1))

abbrev pub Sorted : List Pair → Type 0
Sorted xs = AllPairs NotAfter xs

within : (x y : Pair) (xs : List Pair) → Sorted (x ∷ xs) → Contains xs y → NotAfter x y
within x y xs h c = All-contains (NotAfter x) xs y (pairs_head NotAfter x xs h) c

not_less : (a b : Pair) → NotAfter a b → a.0 ≤ b.0
not_less a b (inl h) = omega (arith, h)
not_less a b (inr h) = let e : a.0 ≡ b.0 = h.0 in omega (arith, e)

tied_less : (a b : Pair) → NotAfter a b → a.0 ≡ b.0 → a.1 ≤ b.1
tied_less a b (inl h) e = absurd (omega (arith, h, e))
tied_less a b (inr h) e = h.1

-- ---- the first is the last one of its number

below_next : (x y : Pair) → NotAfter x y → ((nat_eq x.0 y.0 ≡ true) × (x.0 ≡ y.0)) ⊎ ((nat_eq x.0 y.0 ≡ false) × (x.0 ≡ y.0 → ⊥)) → not (nat_eq x.0 y.0) ≡ true → x.0 < y.0
below_next x y (inl h) t e = h
below_next x y (inr h) (inl t) e = absurd (untrue' (sym (ap not t.0) ∙ e))
below_next x y (inr h) (inr t) e = absurd (t.1 h.0)

pub last_below : (x z : Pair) (xs : List Pair) → Sorted (x ∷ xs) → is_last_of x xs ≡ true → Contains xs z → x.0 < z.0
last_below x z [] h e c = absurd (Contains-none z c)
last_below x z (y ∷ xs) h e c =
    let first : x.0 < y.0 = below_next x y (within x y (y ∷ xs) h (Contains-head y xs)) (eqb_tells x.0 y.0) e in
    ⊎_elim
    (λ (same : y ≡ z). subst (λ (w : Pair). x.0 < w.0) same first)
    (λ (d : Contains xs z). let on : y.0 ≤ z.0 = not_less y z (within y z xs (pairs_tail NotAfter x (y ∷ xs) h) d) in omega (arith, first, on))
    (Contains-uncons y z xs c)

-- ---- it isn't: another one stands behind it

pub record HasNext (x : Pair) (xs : List Pair) : Type 0 where
  pub next : Pair
  pub among : Contains xs next
  pub same : x.0 ≡ next.0

next_same : (x y : Pair) → ((nat_eq x.0 y.0 ≡ true) × (x.0 ≡ y.0)) ⊎ ((nat_eq x.0 y.0 ≡ false) × (x.0 ≡ y.0 → ⊥)) → not (nat_eq x.0 y.0) ≡ false → x.0 ≡ y.0
next_same x y (inl t) e = t.1
next_same x y (inr t) e = absurd (untrue (sym (ap not t.0) ∙ e))

has_next : (x : Pair) (xs : List Pair) → is_last_of x xs ≡ false → HasNext x xs
has_next x [] e = absurd (untrue e)
has_next x (y ∷ xs) e = record { next = y; among = Contains-head y xs; same = next_same x y (eqb_tells x.0 y.0) e }

-- ---- all of them

pub record AreLasts (xs ls : List Pair) : Type 0 where
  pub rise : Rises (λ (e : Pair). e.0) ls
  pub within : (a : Pair) → Contains ls a → Contains xs a
  pub greatest : (a b : Pair) → Contains ls a → Contains xs b → a.0 ≡ b.0 → b.1 ≤ a.1
  pub each : (b : Pair) → Contains xs b → (a : Pair) × Contains ls a × (a.0 ≡ b.0)

module _ (x : Pair) (xs ls : List Pair) (h : Sorted (x ∷ xs)) (r : AreLasts xs ls) where
  module _ (e : is_last_of x xs ≡ true) where
    with_greatest : (a b : Pair) → (x ≡ a) ⊎ Contains ls a → (x ≡ b) ⊎ Contains xs b → a.0 ≡ b.0 → b.1 ≤ a.1
    with_greatest a b (inl p) (inl q) same = let s : b.1 ≡ a.1 = ap (λ (w : Pair). w.1) (sym q ∙ p) in omega (arith, s)
    with_greatest a b (inl p) (inr q) same =
        let less : x.0 < b.0 = last_below x b xs h e q in
        let here : x.0 ≡ a.0 = ap (λ (w : Pair). w.0) p in
        absurd (omega (arith, less, here, same))
    with_greatest a b (inr p) (inl q) same =
        let less : x.0 < a.0 = last_below x a xs h e (r.within a p) in
        let here : x.0 ≡ b.0 = ap (λ (w : Pair). w.0) q in
        absurd (omega (arith, less, here, same))
    with_greatest a b (inr p) (inr q) same = r.greatest a b p q same

    with_last : AreLasts (x ∷ xs) (x ∷ ls)
    with_last = record {
      rise = rises_cons (λ (a : Pair). a.0) x ls (λ y c. last_below x y xs h e (r.within y c)) r.rise;
      within = λ a c. ⊎_elim
          (λ (same : x ≡ a). subst (λ (w : Pair). Contains (x ∷ xs) w) same (Contains-head x xs))
          (λ (d : Contains ls a). Contains-tail x a xs (r.within a d))
          (Contains-uncons x a ls c);
      greatest = λ a b c d. with_greatest a b (Contains-uncons x a ls c) (Contains-uncons x b xs d);
      each = λ b c. ⊎_elim
          (λ (same : x ≡ b). (x, Contains-head x ls, ap (λ (w : Pair). w.0) same))
          (λ (d : Contains xs b). let f = r.each b d in (f.0, Contains-tail x f.0 ls f.1, f.2))
          (Contains-uncons x b xs c);
    }

  module _ (n : HasNext x xs) where
    next_greatest : (a b : Pair) → Contains ls a → (x ≡ b) ⊎ Contains xs b → a.0 ≡ b.0 → b.1 ≤ a.1
    next_greatest a b c (inl q) same =
        let here : x.0 ≡ b.0 = ap (λ (w : Pair). w.0) q in
        let up : x.1 ≡ b.1 = ap (λ (w : Pair). w.1) q in
        let on : x.0 ≡ n.next.0 = n.same in
        let first : x.1 ≤ n.next.1 = tied_less x n.next (within x n.next xs h n.among) n.same in
        let last : n.next.1 ≤ a.1 = r.greatest a n.next c n.among (omega (arith, here, on, same)) in
        omega (arith, up, first, last)
    next_greatest a b c (inr q) same = r.greatest a b c q same

    without_last : AreLasts (x ∷ xs) ls
    without_last = record {
      rise = r.rise;
      within = λ a c. Contains-tail x a xs (r.within a c);
      greatest = λ a b c d. next_greatest a b c (Contains-uncons x b xs d);
      each = λ b c. ⊎_elim
          (λ (same : x ≡ b). let f = r.each n.next n.among in (f.0, f.1, f.2 ∙ sym n.same ∙ ap (λ (w : Pair). w.0) same))
          (λ (d : Contains xs b). r.each b d)
          (Contains-uncons x b xs c);
    }

lasts_step : (x : Pair) (xs : List Pair) (t : Bool) → is_last_of x xs ≡ t → Sorted (x ∷ xs) → AreLasts xs (lasts xs) → AreLasts (x ∷ xs) (cond t (x ∷ lasts xs) (lasts xs))
lasts_step x xs true e h r = with_last x xs (lasts xs) h r e
lasts_step x xs false e h r = without_last x xs (lasts xs) h r (has_next x xs e)

pub are_lasts : (xs : List Pair) → Sorted xs → AreLasts xs (lasts xs)
are_lasts [] h = record {
  rise = λ i j d less low. (let l : j < 0 = low in absurd (omega (arith, l)));
  within = λ a c. c;
  greatest = λ a b c d same. absurd (Contains-none a c);
  each = λ b c. absurd (Contains-none b c);
}
are_lasts (x ∷ xs) h = lasts_step x xs (is_last_of x xs) refl h (are_lasts xs (pairs_tail NotAfter x xs h))
