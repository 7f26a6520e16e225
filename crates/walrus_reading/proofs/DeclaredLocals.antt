-- The locals that a body in memory declares: those that it uses beside its parameters.
use Rattle.std.proofs.Common.{◌≡◌, ◌≢◌, ℕ, ◌+◌, ◌<◌, Bool, true, false, List, [], ◌∷◌, length, refl, sym, ap, subst, ◌∙◌, arith, ⊎_elim, ◌⊎◌, inl, inr}
use Rattle.std.specs.Prelude.{AllPairs, Contains, filter, not, cond}
use Rattle.std.specs.List.{range_with_len}
use Rattle.std.proofs.lemmas.List.FromFn.{length-range_with_len, get_or-range_with_len}
use Rattle.std.proofs.lemmas.List.Kept.{AllPairs-filter}
use Rattle.walrus_base.specs.Locals.{locals}
use Rattle.walrus_base.specs.Operators.{locals_of}
use Rattle.walrus_base.specs.PlaceList.{has}
use Rattle.walrus_base.specs.declared.locals.ModuleLocals.{ModuleLocals}
use Rattle.walrus_base.proofs.ShapesEnd.{has_contained}
use Rattle.walrus_items.specs.Function.{body_of, args_of}
use Rattle.walrus_items.specs.LocalFunction.{LocalFunction}
use Rattle.walrus_contents.specs.View.{is_declared, body}
use Rattle.walrus_contents.proofs.ExportedRefs.{contained_has}
use Rattle.walrus_groups.proofs.TypeLists.{in_range}
use Rattle.walrus_base.proofs.Lists.{Contains-head, Contains-tail, Contains-uncons, Contains-none}
use Rattle.walrus_base.proofs.Standing.{none_there}
use Rattle.walrus_theorem.specs.Pinned.{DeclaresLocal}
use Rattle.walrus_theorem.specs.WellMade.{IsCounted}
use Rattle.std.proofs.lemmas.Bool.{and_parts as both_pass, and_from as pass_both}

-- ---- places in a row

pub range_apart : (a n : ℕ) → AllPairs (λ (x : ℕ) (y : ℕ). x ≢ y) (range_with_len a n)
range_apart a n = λ i j d less within same.
    let last : j < n = omega (arith, within, length-range_with_len a n) in
    let first : i < n = omega (arith, less, last) in
    omega (arith, less, same, get_or-range_with_len a n i d first, get_or-range_with_len a n j d last)

-- ---- tests

not_true : (b : Bool) → not b ≡ true → b ≡ true → ⊥
not_true true h e = none_there h
not_true false h e = none_there e

true_not : (b : Bool) → (b ≡ true → ⊥) → not b ≡ true
true_not true h = absurd (h refl)
true_not false h = refl

-- ---- what passes a test

in_filter : (p : ℕ → Bool) (xs : List ℕ) (x : ℕ) → Contains xs x → p x ≡ true → Contains (filter p xs) x
in_filter p [] x c passes = absurd (Contains-none x c)
in_filter p (y ∷ xs) x c passes = by (p y) refl (Contains-uncons y x xs c) (λ d. in_filter p xs x d passes)
  where
    by : (t : Bool) → p y ≡ t → (y ≡ x) ⊎ Contains xs x → (Contains xs x → Contains (filter p xs) x) → Contains (cond t (y ∷ filter p xs) (filter p xs)) x
    by true e (inl same) rest = subst (Contains (y ∷ filter p xs)) same (Contains-head y (filter p xs))
    by true e (inr is) rest = Contains-tail y x (filter p xs) (rest is)
    by false e (inl same) rest = absurd (none_there (sym e ∙ ap p same ∙ passes))
    by false e (inr is) rest = rest is

passed : (p : ℕ → Bool) (xs : List ℕ) (x : ℕ) → Contains (filter p xs) x → p x ≡ true
passed p [] x c = absurd (Contains-none x c)
passed p (y ∷ xs) x c = by (p y) refl c (passed p xs x)
  where
    by : (t : Bool) → p y ≡ t → Contains (cond t (y ∷ filter p xs) (filter p xs)) x → (Contains (filter p xs) x → p x ≡ true) → p x ≡ true
    by true e d rest = ⊎_elim (λ (same : y ≡ x). ap p (sym same) ∙ e) rest (Contains-uncons y x (filter p xs) d)
    by false e d rest = rest d

-- ---- a body whose used locals are all there counts them

module _ (f : LocalFunction) (all : ModuleLocals) where
  abbrev ones : List ℕ
  ones = filter (is_declared f) (range_with_len 0 (length (locals all)))

  one_is : (x : ℕ) → Contains ones x → DeclaresLocal (body all f) x
  one_is x c =
      let parts = both_pass (has (locals_of (body_of f)) x) (not (has (args_of f) x)) (passed (is_declared f) (range_with_len 0 (length (locals all))) x c) in
      (contained_has (locals_of (body_of f)) x parts.0, λ among. not_true (has (args_of f) x) parts.1 (has_contained (args_of f) x among))

  is_one : (x : ℕ) → x < length (locals all) → DeclaresLocal (body all f) x → Contains ones x
  is_one x within d =
      let ranged : Contains (range_with_len 0 (length (locals all))) x = subst (Contains (range_with_len 0 (length (locals all)))) (let e : 0 + x ≡ x = omega arith in e) (in_range 0 (length (locals all)) x within) in
      in_filter (is_declared f) (range_with_len 0 (length (locals all))) x ranged
      (pass_both (has (locals_of (body_of f)) x) (not (has (args_of f) x)) (has_contained (locals_of (body_of f)) x d.0)
      (true_not (has (args_of f) x) (λ h. d.1 (contained_has (args_of f) x h))))

  pub counts : ((x : ℕ) → Contains (locals_of (body_of f)) x → x < length (locals all)) → IsCounted (body all f)
  counts there = record {
    locals = ones;
    distinct = AllPairs-filter (λ (x : ℕ) (y : ℕ). x ≢ y) (is_declared f) (range_with_len 0 (length (locals all))) (range_apart 0 (length (locals all)));
    are = λ x. (one_is x, λ d. is_one x (there x d.0) d);
    count = refl;
  }
