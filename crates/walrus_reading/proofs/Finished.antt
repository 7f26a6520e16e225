-- Functions and their locals, one function after another, once each has a name.
use Rattle.std.proofs.Common.{⊎_elim, ◌≡◌, ℕ, zero, suc, ◌+◌, ◌-◌, ◌<◌, ◌≤◌, Bool, true, false, List, [], ◌∷◌, refl, sym, ap, subst, ◌∙◌, arith}
use Rattle.std.specs.Prelude.{Option, Some, None, nat_le, nat_lt, ◌==◌, ◌&&◌, if◌then◌else◌, option_map, slice_get}
use Rattle.std.specs.List.{range_with_len}
use Rattle.std.proofs.lemmas.Bool.{and_parts, cases_eq, cases_order, eq-eqb, leb-true, le-leb, lt-ltb, ltb-true, ne_eqb}
use Rattle.walrus_base.specs.Arena.{item_at}
use Rattle.walrus_items.specs.Functions.{FunctionValue}
use Rattle.walrus_model.specs.Abstract.{Name}
use Rattle.walrus_reading.specs.Renamed.{renamed_from}
use Rattle.walrus_reading.specs.Shown.{LocalValue, Shown, mend_function, mend_local}
use Rattle.walrus_reading.specs.Synthetic.{all_filled, filled_if, filled_in, filled_row, once_by, once_filled, parameters_at, span, span_by, text_of_function, text_of_local}
use Rattle.walrus_reading.specs.TakenNames.{below, place_between, place_of, starts_from}
use Rattle.walrus_reading.proofs.Becoming.{item_renamed, renamed_same, renamed_twice}
use Rattle.walrus_reading.proofs.Locals.{one_local}

abbrev Becomes : Type 0
Becomes = Option Name → Option Name

abbrev as_it_was : Becomes
as_it_was old = old

-- ---- the span of a function's locals

-- within the span of its own function
within : (parameters x p : ℕ) (a e : Option ℕ) → place_between x a e ≡ Some p → filled_in parameters (span_by a e) p ≡ filled_if true (text_of_local parameters x)
within parameters x p None e is = absurd cc
within parameters x p (Some first) None is = absurd cc
within parameters x p (Some first) (Some end) is = by_test (nat_lt (first + x) end) refl is where
  by_test : (t : Bool) → nat_lt (first + x) end ≡ t → (if t then Some (first + x) else None) ≡ Some p → filled_row first (end - first) parameters p ≡ filled_if true (text_of_local parameters x)
  by_test false e is = absurd cc
  by_test true e is =
      let at : first + x ≡ p = some_is (first + x) p is in
      let lt : first + x < end = ltb-true (first + x) end e in
      let from : nat_le first p ≡ true = le-leb first p (omega (arith, at)) in
      let up_to : nat_lt p (first + (end - first)) ≡ true = lt-ltb p (first + (end - first)) (omega (arith, at, lt)) in
      let alike : p - first ≡ x = omega (arith, at) in
      λ i. filled_if (from i && up_to i) (text_of_local parameters (alike i)) where
        some_is : (n m : ℕ) → ◌≡◌ {A = Option ℕ} (Some n) (Some m) → n ≡ m
        some_is n m e = cc

-- a place in a span is that of a local of its function
in_span : (parameters p : ℕ) (a e : Option ℕ) → (((x : ℕ) → place_between x a e ≡ Some p → ⊥) → filled_in parameters (span_by a e) p ≡ as_it_was)
in_span parameters p None e none = refl
in_span parameters p (Some first) None none = refl
in_span parameters p (Some first) (Some end) none = by_test (nat_le first p && nat_lt p (first + (end - first))) refl where
  by_test : (t : Bool) → (nat_le first p && nat_lt p (first + (end - first))) ≡ t → filled_if t (text_of_local parameters (p - first)) ≡ as_it_was
  by_test false e = refl
  by_test true e =
      let both = and_parts (nat_le first p) (nat_lt p (first + (end - first))) e in
      let from : first ≤ p = leb-true first p both.0 in
      let up_to : p < first + (end - first) = ltb-true p (first + (end - first)) both.1 in
      let at : first + (p - first) ≡ p = omega (arith, from) in
      absurd (none (p - first) (ap (λ (n : ℕ). below n (Some end)) at ∙ ap (λ (t : Bool). if t then Some p else None) (lt-ltb p end (omega (arith, from, up_to)))))

module _ (starts many : List ℕ) (are : starts ≡ starts_from 0 many) where
  -- outside of the span of another
  outside : (parameters f x p k : ℕ) → (f ≡ k → ⊥) → place_of starts f x ≡ Some p → filled_in parameters (span starts k) p ≡ as_it_was
  outside parameters f x p k apart is =
      in_span parameters p (slice_get starts k) (slice_get starts (suc k))
      (λ y other. apart (one_local 0 many f x k y p (ap (λ l. place_of l f x) (sym are) ∙ is) (ap (λ l. place_of l k y) (sym are) ∙ other)).0)

-- ---- one function

-- what becomes of the names of functions, and of locals
abbrev once_functions : Option ℕ → ℕ → ℕ → Becomes
once_functions None k i = as_it_was
once_functions (Some parameters) k i = filled_if (k == i) (text_of_function k)

abbrev once_locals : List ℕ → Option ℕ → ℕ → ℕ → Becomes
once_locals starts None k p = as_it_was
once_locals starts (Some parameters) k p = filled_in parameters (span starts k) p

functions_once : (starts : List ℕ) (k : ℕ) (o : Option ℕ) (s : Shown) → (once_by starts k o s).functions ≡ renamed_from mend_function (once_functions o k) 0 s.functions
functions_once starts k None s = sym (renamed_same mend_function (λ x. refl) (once_functions None k) 0 s.functions (λ n le. refl))
functions_once starts k (Some parameters) s = refl

locals_once : (starts : List ℕ) (k : ℕ) (o : Option ℕ) (s : Shown) → (once_by starts k o s).locals ≡ renamed_from mend_local (once_locals starts o k) 0 s.locals
locals_once starts k None s = sym (renamed_same mend_local (λ x. refl) (once_locals starts None k) 0 s.locals (λ n le. refl))
locals_once starts k (Some parameters) s = refl

-- how many parameters there are stays
same_parameters : (g : Becomes) (o : Option FunctionValue) → parameters_at (option_map (mend_function g) o) ≡ parameters_at o
same_parameters g None = refl
same_parameters g (Some f) = refl

parameters_stay : (starts : List ℕ) (k : ℕ) (s : Shown) (i : ℕ) → parameters_at (item_at (once_filled starts s k).functions i) ≡ parameters_at (item_at s.functions i)
parameters_stay starts k s i =
    let o : Option ℕ = parameters_at (item_at s.functions k) in
    ap (λ (l : List (Option FunctionValue)). parameters_at (item_at l i)) (functions_once starts k o s)
    ∙ ap parameters_at (item_renamed mend_function (once_functions o k) 0 s.functions i)
    ∙ same_parameters (once_functions o k (0 + i)) (item_at s.functions i)

own_once : (o : Option ℕ) (k parameters : ℕ) → o ≡ Some parameters → once_functions o k k ≡ filled_if true (text_of_function k)
own_once None k parameters e = absurd cc
own_once (Some n) k parameters e = ap (λ (b : Bool). filled_if b (text_of_function k)) (eq-eqb k k refl)

other_once : (o : Option ℕ) (k i : ℕ) → (k ≡ i → ⊥) → once_functions o k i ≡ as_it_was
other_once None k i apart = refl
other_once (Some n) k i apart = ap (λ (b : Bool). filled_if b (text_of_function k)) (ne_eqb k i apart)

no_once : (o : Option ℕ) (k i : ℕ) → o ≡ None → once_functions o k i ≡ as_it_was
no_once None k i e = refl
no_once (Some n) k i e = absurd cc

own_locals : (starts : List ℕ) (o : Option ℕ) (k x p parameters : ℕ) → o ≡ Some parameters → place_of starts k x ≡ Some p → once_locals starts o k p ≡ filled_if true (text_of_local parameters x)
own_locals starts None k x p parameters e is = absurd cc
own_locals starts (Some n) k x p parameters e is = within n x p (slice_get starts k) (slice_get starts (suc k)) is ∙ ap (λ (m : ℕ). filled_if true (text_of_local m x)) (let same : n ≡ parameters = cc in same)

other_locals : (starts many : List ℕ) → starts ≡ starts_from 0 many → (o : Option ℕ) (f x p k : ℕ) → (f ≡ k → ⊥) → place_of starts f x ≡ Some p → once_locals starts o k p ≡ as_it_was
other_locals starts many are None f x p k apart is = refl
other_locals starts many are (Some n) f x p k apart is = outside starts many are n f x p k apart is

-- ---- functions from one on

pub record AreFilled (starts : List ℕ) (k n : ℕ) (old new : Shown) : Type 0 where
  pub functions_become : ℕ → Becomes
  pub functions : new.functions ≡ renamed_from mend_function functions_become 0 old.functions
  pub named : (i parameters : ℕ) → k ≤ i → i < k + n → parameters_at (item_at old.functions i) ≡ Some parameters → functions_become i ≡ filled_if true (text_of_function i)
  pub imported : (i : ℕ) → parameters_at (item_at old.functions i) ≡ None → functions_become i ≡ as_it_was
  pub before : (i : ℕ) → i < k → functions_become i ≡ as_it_was
  pub locals_become : ℕ → Becomes
  pub locals : new.locals ≡ renamed_from mend_local locals_become 0 old.locals
  pub locals_named : (many : List ℕ) → starts ≡ starts_from 0 many → (f x p parameters : ℕ) → k ≤ f → f < k + n → parameters_at (item_at old.functions f) ≡ Some parameters → place_of starts f x ≡ Some p → locals_become p ≡ filled_if true (text_of_local parameters x)
  pub locals_before : (many : List ℕ) → starts ≡ starts_from 0 many → (f x p : ℕ) → f < k → place_of starts f x ≡ Some p → locals_become p ≡ as_it_was

-- what becomes of names by two, where one of them leaves them
after_first : (f g h : Becomes) → f ≡ as_it_was → g ≡ h → (λ old. g (f old)) ≡ h
after_first f g h p q = λ i old. q i (p i old)

before_last : (f g h : Becomes) → f ≡ h → g ≡ as_it_was → (λ old. g (f old)) ≡ h
before_last f g h p q = λ i old. q i (p i old)

pub are_filled : (starts : List ℕ) (n k : ℕ) (s : Shown) → AreFilled starts k n s (all_filled starts s (range_with_len k n))
are_filled starts zero k s = record {
  functions_become = λ i. as_it_was;
  functions = sym (renamed_same mend_function (λ x. refl) (λ i. as_it_was) 0 s.functions (λ n le. refl));
  named = λ i parameters from up_to e. absurd (omega (arith, from, up_to));
  imported = λ i e. refl;
  before = λ i lt. refl;
  locals_become = λ p. as_it_was;
  locals = sym (renamed_same mend_local (λ x. refl) (λ p. as_it_was) 0 s.locals (λ n le. refl));
  locals_named = λ many are f x p parameters from up_to e is. absurd (omega (arith, from, up_to));
  locals_before = λ many are f x p lt is. refl;
}
are_filled starts (suc n) k s =
    let o : Option ℕ = parameters_at (item_at s.functions k) in
    let t : Shown = once_filled starts s k in
    let h : AreFilled starts (k + 1) n t (all_filled starts t (range_with_len (k + 1) n)) = are_filled starts n (k + 1) t in
    record {
      functions_become = λ i old. h.functions_become i (once_functions o k i old);
      functions =
          h.functions
          ∙ ap (renamed_from mend_function h.functions_become 0) (functions_once starts k o s)
          ∙ renamed_twice mend_function (λ f g x. refl) (once_functions o k) h.functions_become 0 s.functions;
      named = λ i parameters from up_to e. ⊎_elim
          (λ (here : k ≡ i). before_last (once_functions o k i) (h.functions_become i) (filled_if true (text_of_function i)) (subst (λ (j : ℕ). parameters_at (item_at s.functions j) ≡ Some parameters → once_functions o k j ≡ filled_if true (text_of_function j)) here (λ given. own_once o k parameters given) e) (h.before i (omega (arith, here))))
          (λ (apart : k ≡ i → ⊥). after_first (once_functions o k i) (h.functions_become i) (filled_if true (text_of_function i)) (other_once o k i apart) (h.named i parameters (later k i from apart) (omega (arith, up_to)) (parameters_stay starts k s i ∙ e)))
          (cases_eq k i);
      imported = λ i e. ⊎_elim
          (λ (here : k ≡ i). before_last (once_functions o k i) (h.functions_become i) as_it_was (no_once o k i (ap (λ (j : ℕ). parameters_at (item_at s.functions j)) here ∙ e)) (h.imported i (parameters_stay starts k s i ∙ e)))
          (λ (apart : k ≡ i → ⊥). after_first (once_functions o k i) (h.functions_become i) as_it_was (other_once o k i apart) (h.imported i (parameters_stay starts k s i ∙ e)))
          (cases_eq k i);
      before = λ i lt. after_first (once_functions o k i) (h.functions_become i) as_it_was (other_once o k i (λ e. omega (arith, e, lt))) (h.before i (omega (arith, lt)));
      locals_become = λ p old. h.locals_become p (once_locals starts o k p old);
      locals =
          h.locals
          ∙ ap (renamed_from mend_local h.locals_become 0) (locals_once starts k o s)
          ∙ renamed_twice mend_local (λ f g x. refl) (once_locals starts o k) h.locals_become 0 s.locals;
      locals_named = λ many are f x p parameters from up_to e is. ⊎_elim
          (λ (here : k ≡ f). before_last (once_locals starts o k p) (h.locals_become p) (filled_if true (text_of_local parameters x))
          (own_locals starts o k x p parameters (ap (λ (j : ℕ). parameters_at (item_at s.functions j)) here ∙ e) (ap (λ (j : ℕ). place_of starts j x) here ∙ is)) (h.locals_before many are f x p (omega (arith, here)) is))
          (λ (apart : k ≡ f → ⊥). after_first (once_locals starts o k p) (h.locals_become p) (filled_if true (text_of_local parameters x)) (other_locals starts many are o f x p k (λ same. apart (sym same)) is)
          (h.locals_named many are f x p parameters (later k f from apart) (omega (arith, up_to)) (parameters_stay starts k s f ∙ e) is))
          (cases_eq k f);
      locals_before = λ many are f x p lt is. after_first (once_locals starts o k p) (h.locals_become p) as_it_was (other_locals starts many are o f x p k (λ same. omega (arith, same, lt)) is) (h.locals_before many are f x p (omega (arith, lt)) is);
    } where
      later : (k i : ℕ) → k ≤ i → (k ≡ i → ⊥) → k + 1 ≤ i
      later k i le apart = ⊎_elim (λ (e : k ≡ i). absurd (apart e)) (⊎_elim (λ (lt : k < i). omega (arith, lt)) (λ (gt : i < k). absurd (omega (arith, gt, le)))) (cases_order k i)

-- what isn't a function or a local stays
others_once : {Y : Type 0} (field : Shown → Y) → ((s : Shown) (fs : List (Option FunctionValue)) (ls : List (Option LocalValue)) → field (record s { functions = fs; locals = ls }) ≡ field s) → (starts : List ℕ) (f : ℕ) (o : Option ℕ) (s : Shown) → field (once_by starts f o s) ≡ field s
others_once field same starts f None s = refl
others_once field same starts f (Some parameters) s = same s (once_by starts f (Some parameters) s).functions (once_by starts f (Some parameters) s).locals

pub others_filled : {Y : Type 0} (field : Shown → Y) → ((s : Shown) (fs : List (Option FunctionValue)) (ls : List (Option LocalValue)) → field (record s { functions = fs; locals = ls }) ≡ field s) → (starts fs : List ℕ) (s : Shown) → field (all_filled starts s fs) ≡ field s
others_filled field same starts [] s = refl
others_filled field same starts (f ∷ fs) s = others_filled field same starts fs (once_filled starts s f) ∙ others_once field same starts f (parameters_at (item_at s.functions f)) s
