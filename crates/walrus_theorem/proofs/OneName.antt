-- Names are told by what they give to each subject: their maps rise, and what is named is there.
use Rattle.std.proofs.Common.{◌≡◌, ℕ, ◌<◌, Bool, true, false, List, [], ◌∷◌, ◌++◌, refl, sym, ap, ap₂, ◌∙◌, subst, arith, inl, inr}
use Rattle.std.specs.Prelude.{◌≢◌, ◌==◌, if◌then◌else◌}
use Rattle.std.specs.List.{AllByRecursion}
use Rattle.std.proofs.lemmas.Bool.Decides.{eqb_tells}
use Rattle.std.proofs.lemmas.List.{append-nil}
use Rattle.walrus_model.specs.Abstract.{Name}
use Rattle.walrus_theorem.specs.Text.{NameMap}
use Rattle.walrus_model.proofs.LawOrder.{Sorted}

-- ---- rising keys: what all entries of a key give tells the entries

abbrev pub at : {V Y : Type 0} → (V → List Y) → List (ℕ × V) → ℕ → List Y
at give [] k = []
at give (e ∷ es) k = (if e.0 == k then give e.1 else []) ++ at give es k

abbrev Above : {V : Type 0} → ℕ → ℕ × V → Type 0
Above k e = k < e.0

abbrev pub Lower : {V : Type 0} → ℕ × V → ℕ × V → Type 0
Lower d e = d.0 < e.0

module _ {V Y : Type 0} (give : V → List Y) where
  by_test : (e : ℕ × V) (es : List (ℕ × V)) (k : ℕ) (b : Bool) → (e.0 == k) ≡ b → at give (e ∷ es) k ≡ (if b then give e.1 else []) ++ at give es k
  by_test e es k b is = ap (λ (t : Bool). (if t then give e.1 else []) ++ at give es k) is

  passed : (e : ℕ × V) (es : List (ℕ × V)) (k : ℕ) → (e.0 ≡ k → ⊥) → at give (e ∷ es) k ≡ at give es k
  passed e es k apart = elim (eqb_tells e.0 k) [ inl h ↦ absurd (apart h.1) | inr h ↦ by_test e es k false h.0 ]

  taken : (e : ℕ × V) (es : List (ℕ × V)) (k : ℕ) → e.0 ≡ k → at give (e ∷ es) k ≡ give e.1 ++ at give es k
  taken e es k same = elim (eqb_tells e.0 k) [ inl h ↦ by_test e es k true h.0 | inr h ↦ absurd (h.1 same) ]

  none_above : (k : ℕ) (es : List (ℕ × V)) → AllByRecursion (Above k) es → at give es k ≡ []
  none_above k [] h = refl
  none_above k (e ∷ es) h = passed e es k (λ same. omega (arith, same, h.0)) ∙ none_above k es h.1

  alone : (e : ℕ × V) (es : List (ℕ × V)) → AllByRecursion (Above e.0) es → at give (e ∷ es) e.0 ≡ give e.1
  alone e es h = taken e es e.0 refl ∙ ap (λ l. give e.1 ++ l) (none_above e.0 es h) ∙ append-nil (give e.1)

higher : {V : Type 0} (j k : ℕ) (es : List (ℕ × V)) → j < k → AllByRecursion (Above k) es → AllByRecursion (Above j) es
higher j k [] low h = tt
higher j k (e ∷ es) low h = (omega (arith, low, h.0), higher j k es low h.1)

abbrev Tells : {Z V Y : Type 0} → (Z → V → List Y) → (V → Type 0) → Type 0
Tells {Z} {V} give Good = (v w : V) → Good v → Good w → ((z : Z) → give z v ≡ give z w) → v ≡ w

abbrev Gives : {Z V Y : Type 0} → (Z → V → List Y) → (V → Type 0) → Type 0
Gives {Z} {V} give Good = (v : V) → Good v → (z : Z) × (give z v ≢ [])

module _ {Z V Y : Type 0} (give : Z → V → List Y) (Good : V → Type 0) (tells : Tells give Good) (gives : Gives give Good) where
  there : (e : ℕ × V) (es : List (ℕ × V)) → Good e.1 → AllByRecursion (Above e.0) es → ((z : Z) → at (give z) (e ∷ es) e.0 ≡ []) → ⊥
  there e es good h none = let one = gives e.1 good in one.1 (sym (alone (give one.0) e es h) ∙ none one.0)

  abbrev AreGood : ℕ × V → Type 0
  AreGood e = Good e.1

  one_rising : (xs ys : List (ℕ × V)) → Sorted Lower xs → Sorted Lower ys → AllByRecursion AreGood xs → AllByRecursion AreGood ys → ((k : ℕ) (z : Z) → at (give z) xs k ≡ at (give z) ys k) → xs ≡ ys
  one_rising [] [] r s h g same = refl
  one_rising [] (y ∷ ys) r s h g same = absurd (there y ys g.0 s.0 (λ z. sym (same y.0 z)))
  one_rising (x ∷ xs) [] r s h g same = absurd (there x xs h.0 r.0 (λ z. same x.0 z))
  one_rising (x ∷ xs) (y ∷ ys) r s h g same =
      let left : x.0 < y.0 → ⊥ = (λ low. there x xs h.0 r.0 (λ z. same x.0 z ∙ passed (give z) y ys x.0 (λ e. omega (arith, low, e)) ∙ none_above (give z) x.0 ys (higher x.0 y.0 ys low s.0))) in
      let right : y.0 < x.0 → ⊥ = (λ low. there y ys g.0 s.0 (λ z. sym (same y.0 z) ∙ passed (give z) x xs y.0 (λ e. omega (arith, low, e)) ∙ none_above (give z) y.0 xs (higher y.0 x.0 xs low r.0))) in
      let key : x.0 ≡ y.0 = omega (arith, left, right) in
      let over : AllByRecursion (Above x.0) ys = subst (λ (k : ℕ). AllByRecursion (Above k) ys) (sym key) s.0 in
      let value : x.1 ≡ y.1 = tells x.1 y.1 h.0 g.0 (λ z. sym (alone (give z) x xs r.0) ∙ same x.0 z ∙ taken (give z) y ys x.0 (sym key) ∙ ap (λ l. give z y.1 ++ l) (none_above (give z) x.0 ys over) ∙ append-nil (give z y.1)) in
      let head : x ≡ y = ap₂ (λ (k : ℕ) (v : V). (k, v)) key value in
      ap₂ ◌∷◌ head
      (one_rising xs ys r.1 s.1 h.1 g.1 (λ k z.
      elim (eqb_tells x.0 k) [
        | inl e ↦ none_above (give z) k xs (subst (λ (j : ℕ). AllByRecursion (Above j) xs) e.1 r.0) ∙ sym (none_above (give z) k ys (subst (λ (j : ℕ). AllByRecursion (Above j) ys) e.1 over))
        | inr e ↦ sym (passed (give z) x xs k e.1) ∙ same k z ∙ passed (give z) y ys k (λ f. e.1 (key ∙ f))
      ]))

-- ---- one map

abbrev pub own : Unit {0} → Name → List Name
own z name = name ∷ []

abbrev AnyName : Name → Type 0
AnyName name = Unit {0}

own_tells : Tells own AnyName
own_tells v w h g same = let e = same tt in cc

own_gives : Gives own AnyName
own_gives v h = (tt, λ e. absurd cc)

abbrev pub looked : NameMap → ℕ → List Name
looked names k = at (own tt) names k

any_names : (names : NameMap) → AllByRecursion (AreGood own AnyName own_tells own_gives) names
any_names [] = tt
any_names (e ∷ es) = (tt, any_names es)

pub one_map : (xs ys : NameMap) → Sorted Lower xs → Sorted Lower ys → ((k : ℕ) → looked xs k ≡ looked ys k) → xs ≡ ys
one_map xs ys r s same = one_rising own AnyName own_tells own_gives xs ys r s (any_names xs) (any_names ys) (λ k z. same k)

-- ---- the maps of functions

abbrev pub looked_in : ℕ → NameMap → List Name
looked_in k names = looked names k

abbrev pub MapGood : NameMap → Type 0
MapGood names = (names ≢ []) × Sorted Lower names

maps_tell : Tells looked_in MapGood
maps_tell v w h g same = one_map v w h.1 g.1 same

maps_give : Gives looked_in MapGood
maps_give [] h = absurd (h.0 refl)
maps_give (e ∷ es) h = (e.0, λ none. there own AnyName own_tells own_gives e es tt h.1.0 (λ z. none))

abbrev pub looked_at : List (ℕ × NameMap) → ℕ → ℕ → List Name
looked_at fs f x = at (looked_in x) fs f

pub one_maps : (xs ys : List (ℕ × NameMap)) → Sorted Lower xs → Sorted Lower ys → AllByRecursion (λ (f : ℕ × NameMap). MapGood f.1) xs → AllByRecursion (λ (f : ℕ × NameMap). MapGood f.1) ys → ((f x : ℕ) → looked_at xs f x ≡ looked_at ys f x) → xs ≡ ys
one_maps xs ys r s h g same = one_rising looked_in MapGood maps_tell maps_give xs ys r s h g same
