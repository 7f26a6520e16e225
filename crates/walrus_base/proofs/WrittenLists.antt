-- Lists of places, and what stands at places.
use Rattle.std.proofs.Common.{◌≡◌, ℕ, zero, suc, ◌+◌, ◌-◌, ◌<◌, ◌≤◌, ◌==◌, Bool, true, false, List, [], ◌∷◌, map, Option, Some, None, refl, sym, ap, ap₂, ◌∙◌, arith, add-zero, eqb-true, ⊎_elim, subst}
use Rattle.std.specs.Prelude.{Contains}
use Rattle.std.specs.List.{range_with_len}
use Rattle.walrus_base.specs.Arena.{item_at, entries_from, entries}
use Rattle.walrus_base.specs.PlaceList.{has}
use Rattle.walrus_base.specs.TypeDef.{TypeDef}
use Rattle.walrus_base.specs.TypeSlots.{defs}
use Rattle.walrus_base.specs.declared.types.Type.{«Type»}
use Rattle.walrus_base.proofs.Lists.{Contains-head, Contains-tail}
use Rattle.walrus_base.proofs.Noted.{or_cases}
use Rattle.walrus_base.proofs.WholeLemmas.{has-range}

pub some_inside : {T : Type 0} (x y : T) → Some x ≡ Some y → x ≡ y
some_inside x y h = cc

pub not_equal : (a b : ℕ) → (a ≡ b → ⊥) → (a == b) ≡ false
not_equal a b h = not_true (a == b) (λ e. h (eqb-true a b e))
  where
    not_true : (t : Bool) → (t ≡ true → ⊥) → t ≡ false
    not_true true h = absurd (h refl)
    not_true false h = refl

-- ---- rows of places

abbrev pub IsRow : List ℕ → Type 0
IsRow group = (first : ℕ) × ((n : ℕ) × (group ≡ range_with_len first n))

pub row-has : (a n p : ℕ) → a ≤ p → p < a + n → has (range_with_len a n) p ≡ true
row-has a n p l h = let e : p ≡ a + (p - a) = omega (arith, l) in ap (has (range_with_len a n)) e ∙ has-range a n (p - a) (omega (arith, l, h))

pub has-row : (a n p : ℕ) → has (range_with_len a n) p ≡ true → (a ≤ p) × (p < a + n)
has-row a zero p h = absurd cc
has-row a (suc n) p h =
    ⊎_elim
    (λ here. let e = eqb-true a p here in (omega (arith, e), omega (arith, e)))
    (λ later. let r = has-row (a + 1) n p later in (let low : a + 1 ≤ p = r.0 in omega (arith, low), let high : p < a + 1 + n = r.1 in omega (arith, high)))
    (or_cases (a == p) (has (range_with_len (a + 1) n) p) h)

-- the group of each type is a row
pub group-row : (places : List (Option «Type»)) (t : ℕ) (x : TypeDef) → item_at (defs places) t ≡ Some x → IsRow x.group
group-row [] t x h = absurd cc
group-row (None ∷ ps) zero x h = absurd cc
group-row (Some ty ∷ ps) zero x h = subst (λ (y : TypeDef). IsRow y.group) (some_inside _ _ h) (ty.first, (ty.end - ty.first, refl))
group-row (None ∷ ps) (suc t) x h = group-row ps t x h
group-row (Some ty ∷ ps) (suc t) x h = group-row ps t x h

-- ---- entries

-- what stands at a place is among the items
pub item_contained : {T : Type 0} (k : ℕ) (slots : List (Option T)) (t : ℕ) (x : T) → item_at slots t ≡ Some x → Contains (map (λ e. e.1) (entries_from k slots)) x
item_contained k [] t x h = absurd cc
item_contained k (None ∷ rest) zero x h = absurd cc
item_contained {T} k (Some y ∷ rest) zero x h = subst (λ (z : T). Contains (y ∷ map (λ e. e.1) (entries_from (k + 1) rest)) z) (some_inside _ _ h) (Contains-head y _)
item_contained k (None ∷ rest) (suc t) x h = item_contained (k + 1) rest t x h
item_contained k (Some y ∷ rest) (suc t) x h = Contains-tail y x _ (item_contained (k + 1) rest t x h)

entry_from : {T : Type 0} (k : ℕ) (slots : List (Option T)) (t p : ℕ) (x : T) → p ≡ k + t → item_at slots t ≡ Some x → Contains (entries_from k slots) (p, x)
entry_from k [] t p x is h = absurd cc
entry_from k (None ∷ rest) zero p x is h = absurd cc
entry_from {T} k (Some y ∷ rest) zero p x is h =
    let here : (k, y) ≡ (p, x) = ap₂ (λ (n : ℕ) (z : T). (n, z)) (sym (is ∙ add-zero k)) (some_inside _ _ h) in
    subst (λ (e : ℕ × T). Contains ((k, y) ∷ entries_from (k + 1) rest) e) here (Contains-head (k, y) _)
entry_from k (None ∷ rest) (suc t) p x is h = entry_from (k + 1) rest t p x (omega (arith, is)) h
entry_from k (Some y ∷ rest) (suc t) p x is h = Contains-tail (k, y) (p, x) _ (entry_from (k + 1) rest t p x (omega (arith, is)) h)

pub entry_contained : {T : Type 0} (slots : List (Option T)) (t : ℕ) (x : T) → item_at slots t ≡ Some x → Contains (entries slots) (t, x)
entry_contained slots t x h = entry_from 0 slots t t x (omega arith) h
