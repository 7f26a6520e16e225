-- The places of the locals of functions, and what is given to them.
use Rattle.std.proofs.Common.{◌≡◌, ℕ, zero, suc, ◌+◌, ◌<◌, ◌≤◌, Bool, true, false, List, [], ◌∷◌, ◌++◌, refl, sym, ap, ap₂, ◌∙◌, arith}
use Rattle.std.specs.Prelude.{Option, Some, None, option_map, nat_lt, if◌then◌else◌, ◌==◌, ◌&&◌}
use Rattle.std.proofs.lemmas.Bool.{eq-eqb, eqb-true, ltb-true, true≢false}
use Rattle.wasm_payloads.specs.Names.{Named, ModuleName, ItemName, LocalName}
use Rattle.walrus_model.specs.Abstract.{Name, ALocal}
use Rattle.walrus_theorem.specs.Namings.{names_given}
use Rattle.walrus_reading.specs.TakenNames.{Bounds, counts, local_in, place_of, starts_from, that_count}
use Rattle.walrus_reading.proofs.AfterAll.{given, given_at}

-- ---- places

some_is : (x y : ℕ) → ◌≡◌ {A = Option ℕ} (Some x) (Some y) → x ≡ y
some_is x y e = cc

at_front : (k n : ℕ) (ns : List ℕ) (x : ℕ) → place_of (starts_from k (n ∷ ns)) 0 x ≡ (if nat_lt (k + x) (k + n) then Some (k + x) else None)
at_front k n [] x = refl
at_front k n (m ∷ ns) x = refl

-- what a test lets through
let_through : (p q end : ℕ) (t : Bool) → nat_lt p end ≡ t → (if t then Some p else None) ≡ Some q → (p ≡ q) × (p < end)
let_through p q end true e is = (some_is p q is, ltb-true p end e)
let_through p q end false e is = absurd cc

-- the local of the function at the front, from its first place on
pub in_front : (k n : ℕ) (ns : List ℕ) (x p : ℕ) → place_of (starts_from k (n ∷ ns)) 0 x ≡ Some p → (k + x ≡ p) × (k + x < k + n)
in_front k n ns x p is = let_through (k + x) p (k + n) (nat_lt (k + x) (k + n)) refl (sym (at_front k n ns x) ∙ is)

-- each stands from the first place on
from_first : (k : ℕ) (ns : List ℕ) (f x p : ℕ) → place_of (starts_from k ns) f x ≡ Some p → k ≤ p
from_first k [] zero x p is = absurd cc
from_first k [] (suc f) x p is = absurd cc
from_first k (n ∷ ns) zero x p is = let h = in_front k n ns x p is in omega (arith, h.0)
from_first k (n ∷ ns) (suc f) x p is = let le : k + n ≤ p = from_first (k + n) ns f x p is in omega (arith, le)

-- no place is that of two locals
pub one_local : (k : ℕ) (ns : List ℕ) (f x g y p : ℕ) → place_of (starts_from k ns) f x ≡ Some p → place_of (starts_from k ns) g y ≡ Some p → (f ≡ g) × (x ≡ y)
one_local k [] zero x g y p a b = absurd cc
one_local k [] (suc f) x g y p a b = absurd cc
one_local k (n ∷ ns) zero x zero y p a b = let h = in_front k n ns x p a in let i = in_front k n ns y p b in (refl, omega (arith, h.0, i.0))
one_local k (n ∷ ns) zero x (suc g) y p a b = let h = in_front k n ns x p a in let le : k + n ≤ p = from_first (k + n) ns g y p b in absurd (omega (arith, h.0, h.1, le))
one_local k (n ∷ ns) (suc f) x zero y p a b = let h = in_front k n ns y p b in let le : k + n ≤ p = from_first (k + n) ns f x p a in absurd (omega (arith, h.0, h.1, le))
one_local k (n ∷ ns) (suc f) x (suc g) y p a b = let h = one_local (k + n) ns f x g y p a b in (ap suc h.0, h.1)

-- ---- what is given to the place of a local

count_first : (t h : Bool) (name : Name) (names : List Name) → that_count t ((if h then name ∷ [] else []) ++ names) ≡ (if counts t name then (if h then name ∷ [] else []) else []) ++ that_count t names
count_first false h name names = refl
count_first true false [] names = refl
count_first true false (c ∷ name) names = refl
count_first true true [] names = refl
count_first true true (c ∷ name) names = refl

module _ (b : Bounds) (ns : List ℕ) (k f x p : ℕ) (are : b.starts ≡ starts_from k ns) (is : place_of b.starts f x ≡ Some p) where
  same_local : (g y q : ℕ) (name : Name) → place_of b.starts g y ≡ Some q → (h : Bool) → (q == p) ≡ h → (if h then name ∷ [] else []) ≡ (if g == f && y == x then name ∷ [] else [])
  same_local g y q name other true e =
      let at : q ≡ p = eqb-true q p e in
      let same = one_local k ns g y f x p (ap (λ l. place_of l g y) (sym are) ∙ other ∙ ap Some at) (ap (λ l. place_of l f x) (sym are) ∙ is) in
      ap₂ (λ (u v : Bool). if u && v then name ∷ [] else []) (sym (eq-eqb g f same.0)) (sym (eq-eqb y x same.1))
  same_local g y q name other false e = by_test (g == f) refl (y == x) refl where
    by_test : (u : Bool) → (g == f) ≡ u → (v : Bool) → (y == x) ≡ v → [] ≡ (if u && v then name ∷ [] else [])
    by_test false eu v ev = refl
    by_test true eu false ev = refl
    by_test true eu true ev =
        let at : q ≡ p = some_is q p (sym other ∙ ap₂ (place_of b.starts) (eqb-true g f eu) (eqb-true y x ev) ∙ is) in
        absurd (true≢false (sym (eq-eqb q p at) ∙ e))

  one_given : (g y : ℕ) (name : Name) (t : Bool) (o : Option ℕ) → place_of b.starts g y ≡ o → given_at (if t then option_map (λ q. (q, name)) o else None) p ≡ (if t then (if g == f && y == x then name ∷ [] else []) else [])
  one_given g y name false o e = refl
  one_given g y name true (Some q) e = same_local g y q name e (q == p) refl
  one_given g y name true None e = by_test (g == f) refl (y == x) refl where
    by_test : (u : Bool) → (g == f) ≡ u → (v : Bool) → (y == x) ≡ v → [] ≡ (if u && v then name ∷ [] else [])
    by_test false eu v ev = refl
    by_test true eu false ev = refl
    by_test true eu true ev = absurd (none_some (sym e ∙ ap₂ (place_of b.starts) (eqb-true g f eu) (eqb-true y x ev) ∙ is)) where
      none_some : ◌≡◌ {A = Option ℕ} None (Some p) → ⊥
      none_some h = cc

  -- is what counts of the names that the namings give to this local
  pub local_given : (namings : List Named) → given (local_in b) namings p ≡ that_count b.synthetic (names_given namings (ALocal f x))
  local_given [] = nothing b.synthetic where
    nothing : (t : Bool) → [] ≡ that_count t []
    nothing true = refl
    nothing false = refl
  local_given (ModuleName name ∷ namings) = local_given namings
  local_given (ItemName space i name ∷ namings) = local_given namings
  local_given (LocalName g y name ∷ namings) =
      ap₂ (λ (xs ys : List Name). xs ++ ys) (one_given g y name (counts b.synthetic name) (place_of b.starts g y) refl) (local_given namings)
      ∙ sym (count_first b.synthetic (g == f && y == x) name (names_given namings (ALocal f x)))
