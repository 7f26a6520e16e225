-- Which of the first places a test tells, one place more at a time.
use Rattle.std.proofs.Common.{◌≡◌, ◌≢◌, ℕ, ◌+◌, ◌<◌, ◌≤◌, Bool, true, false, length, List, Option, None, sym, ap, ◌∙◌, ⊎_elim, arith}
use Rattle.std.specs.Prelude.{nat_lt, ◌&&◌, is_some}
use Rattle.std.proofs.Math.Path.{fun_ext}
use Rattle.std.proofs.Math.Bool.{and-false}
use Rattle.std.proofs.lemmas.Bool.{cases_lt, le-ltb, lt-ltb}
use Rattle.std.proofs.lemmas.List.{get_or_past}
use Rattle.walrus.specs.Items.Imports.{ImportValue}
use Rattle.walrus.proofs.Theorem.EditSpace.{equal_or}
use Rattle.walrus_tools.specs.Stub.{comes_from, function_from}

-- no place is below 0
pub none_below : (C : ℕ → Bool) → ◌≡◌ {A = ℕ → Bool} (λ p. false) (λ p. nat_lt p 0 && C p)
none_below C = fun_ext (λ p. ap (λ (b : Bool). b && C p) (sym (le-ltb p 0 (omega arith))))

pub not_yet : (C : ℕ → Bool) (n : ℕ) → (nat_lt n n && C n) ≡ false
not_yet C n = ap (λ (b : Bool). b && C n) (le-ltb n n (omega arith))

pub now_hit : (C : ℕ → Bool) (n : ℕ) → C n ≡ true → (nat_lt n (n + 1) && C n) ≡ true
now_hit C n hit = ap (λ (b : Bool). b && C n) (lt-ltb n (n + 1) (omega arith)) ∙ hit

pub same_below : (C : ℕ → Bool) (n p : ℕ) → p ≢ n → (nat_lt p (n + 1) && C p) ≡ (nat_lt p n && C p)
same_below C n p not = ap (λ (b : Bool). b && C p) (⊎_elim
    (λ (lt : p < n). lt-ltb p (n + 1) (omega (arith, lt)) ∙ sym (lt-ltb p n lt))
    (λ (le : n ≤ p). ⊎_elim (λ (e : p ≡ n). absurd (not e)) (λ (e : p ≢ n). let more : n + 1 ≤ p = above n p le e in le-ltb p (n + 1) more ∙ sym (le-ltb p n le)) (equal_or p n))
    (cases_lt p n)) where
      above : (n p : ℕ) → n ≤ p → p ≢ n → n + 1 ≤ p
      above n p le not = ⊎_elim (λ (lt : n < p). omega (arith, lt)) (λ (ge : p ≤ n). absurd (not (omega (arith, le, ge)))) (cases_lt n p)

-- a place that the test doesn't tell changes nothing
pub passes_over : (C : ℕ → Bool) (n : ℕ) → C n ≡ false → ◌≡◌ {A = ℕ → Bool} (λ p. nat_lt p n && C p) (λ p. nat_lt p (n + 1) && C p)
passes_over C n miss = fun_ext (λ p. ⊎_elim
    (λ (e : p ≡ n). ap (λ (b : Bool). nat_lt p n && b) (ap C e ∙ miss) ∙ and-false (nat_lt p n) ∙ sym (and-false (nat_lt p (n + 1))) ∙ ap (λ (b : Bool). nat_lt p (n + 1) && b) (sym (ap C e ∙ miss)))
    (λ (e : p ≢ n). sym (same_below C n p e))
    (equal_or p n))

-- behind the last place nothing is told
pub all_below : (C : ℕ → Bool) (n : ℕ) → ((p : ℕ) → n ≤ p → C p ≡ false) → ◌≡◌ {A = ℕ → Bool} (λ p. nat_lt p n && C p) C
all_below C n past = fun_ext (λ p. ⊎_elim
    (λ (lt : p < n). ap (λ (b : Bool). b && C p) (lt-ltb p n lt))
    (λ (le : n ≤ p). ap (λ (b : Bool). nat_lt p n && b) (past p le) ∙ and-false (nat_lt p n) ∙ sym (past p le))
    (cases_lt p n))

-- so it is of the imports of a module
pub comes_past : (from : List ℕ) (all : List (Option ImportValue)) (p : ℕ) → length all ≤ p → comes_from from all p ≡ false
comes_past from all p le = ap (λ (o : Option ImportValue). is_some (function_from from o)) (get_or_past all p None le)
