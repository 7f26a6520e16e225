-- How many locals a body declares: no more than 50,000 are used beside its parameters exactly where it counts no more.
use Rattle.std.proofs.Common.{◌≡◌, ◌≢◌, ℕ, ◌+◌, ◌-◌, ◌<◌, ◌≤◌, Bool, true, false, List, ◌++◌, length, refl, sym, ap, subst, ◌∙◌, arith, ⊎_elim}
use Rattle.std.specs.Prelude.{All, AllPairs, Contains, filter, not, nat_le, slice_index_or}
use Rattle.std.specs.Bool.{Decides}
use Rattle.std.proofs.lemmas.Bool.{false≢true}
use Rattle.std.proofs.lemmas.Bool.Decides.{Decides-eqb}
use Rattle.std.proofs.lemmas.List.{length-append}
use Rattle.std.proofs.lemmas.List.Elements.{Contains-append_cases, Contains-append_left, Contains-append_right}
use Rattle.std.proofs.lemmas.List.Kept.{AllPairs-filter}
use Rattle.std.proofs.lemmas.Map.Made.{AllPairs-from_IsDistinct}
use Rattle.walrus_base.specs.Operators.{locals_of}
use Rattle.walrus_base.specs.PlaceList.{has}
use Rattle.walrus_base.specs.declared.locals.ModuleLocals.{ModuleLocals}
use Rattle.walrus_base.proofs.ShapesEnd.{has_contained}
use Rattle.walrus_functions.specs.Declaring.{AreOnce}
use Rattle.walrus_items.specs.Function.{args_of, body_of}
use Rattle.walrus_items.specs.LocalFunction.{LocalFunction}
use Rattle.walrus_contents.specs.View.{body}
use Rattle.walrus_contents.proofs.ExportedRefs.{contained_has}
use Rattle.walrus_base.proofs.Filters.{from_filter, in_filter}
use Rattle.walrus_model.proofs.OrderOfPlaces.{pairs_both}
use Rattle.walrus_base.proofs.Counting.{no_longer}
use Rattle.walrus_functions.proofs.Pigeon.{all_in, apart_distinct, pigeon}
use Rattle.walrus_theorem.specs.WellMade.{IsCounted}
use Rattle.walrus_module.specs.Tested.{DeclaresFew}
use Rattle.walrus_model.proofs.Deciding.{all_so, decides_by, leb_decides}

abbrev Apart : List ℕ → Type 0
Apart xs = AllPairs (λ (x : ℕ) (y : ℕ). x ≢ y) xs

-- ---- so many locals that are named, less those that are parameters

module _ (f : LocalFunction) (once parameters : List ℕ) (all : AreOnce (args_of f ++ locals_of (body_of f)) once) (own : AreOnce (args_of f) parameters) where
  once_apart : Apart once
  once_apart = AllPairs-from_IsDistinct Decides-eqb once all.distinct

  own_apart : Apart parameters
  own_apart = AllPairs-from_IsDistinct Decides-eqb parameters own.distinct

  few : length once - length parameters ≤ 50_000 → DeclaresFew f
  few counted further apart used beside =
      let both : Apart (further ++ parameters) = pairs_both (λ (x : ℕ) (y : ℕ). x ≢ y) further parameters apart own_apart
      (λ x y in_further in_parameters same. one_beside x in_further (subst (λ (z : ℕ). Contains parameters z) (sym same) in_parameters)) in
      let within : All (Contains once) (further ++ parameters) = all_so (Contains once) (further ++ parameters)
      (λ x c. ⊎_elim
      (λ (d : Contains further x). (all.same x).1 (Contains-append_right (args_of f) (locals_of (body_of f)) x (one_used x d)))
      (λ (d : Contains parameters x). (all.same x).1 (Contains-append_left (args_of f) (locals_of (body_of f)) x ((own.same x).0 d)))
      (Contains-append_cases further parameters x c)) in
      omega (arith, counted, no_longer (further ++ parameters) once both within, length-append further parameters)
    where
      one_used : (x : ℕ) → Contains further x → Contains (locals_of (body_of f)) x
      one_used x c = subst (λ (z : ℕ). Contains (locals_of (body_of f)) z) c.2 (used c.0 x c.1)

      one_beside : (x : ℕ) → Contains further x → Contains parameters x → ⊥
      one_beside x c d = beside c.0 x c.1 (subst (λ (z : ℕ). Contains (args_of f) z) (sym c.2) ((own.same x).0 d))

  abbrev is_further : ℕ → Bool
  is_further x = not (has parameters x)

  abbrev those : List ℕ
  those = filter is_further once

  not_had : (x : ℕ) → is_further x ≡ true → Contains parameters x → ⊥
  not_had x e c = absurd (false≢true (sym (ap not (has_contained parameters x c)) ∙ e))

  split : (x : ℕ) → Contains once x → (b : Bool) → has parameters x ≡ b → Contains (parameters ++ those) x
  split x c true e = Contains-append_left parameters those x (contained_has parameters x e)
  split x c false e = Contains-append_right parameters those x (in_filter is_further once x c (ap not e))

  counts : DeclaresFew f → length once - length parameters ≤ 50_000
  counts law =
      let at_most : length those ≤ 50_000 = law those (AllPairs-filter (λ (x : ℕ) (y : ℕ). x ≢ y) is_further once once_apart)
      (all_so (Contains (locals_of (body_of f))) those
      (λ x c. let k = from_filter is_further once x c in ⊎_elim
      (λ (d : Contains (args_of f) x). absurd (not_had x k.1 ((own.same x).1 d)))
      (λ (d : Contains (locals_of (body_of f)) x). d)
      (Contains-append_cases (args_of f) (locals_of (body_of f)) x ((all.same x).0 k.0))))
      (all_so (λ (x : ℕ). Contains (args_of f) x → ⊥) those
      (λ x c d. not_had x (from_filter is_further once x c).1 ((own.same x).1 d))) in
      omega (arith, at_most, no_longer once (parameters ++ those) once_apart (all_so (Contains (parameters ++ those)) once (λ x c. split x c (has parameters x) refl)), length-append parameters those)

  pub decided : (n m : ℕ) → n ≡ length once → m ≡ length parameters → Decides (nat_le (n - m) 50_000) (DeclaresFew f)
  decided n m e g = decides_by (λ (h : n - m ≤ 50_000). few (omega (arith, h, e, g))) (λ law. let h : length once - length parameters ≤ 50_000 = counts law in omega (arith, h, e, g)) (nat_le (n - m) 50_000) (leb_decides (n - m) 50_000)

-- ---- as a module counts them

module _ (f : LocalFunction) (all : ModuleLocals) (is : IsCounted (body all f)) where
  pub counted_few : DeclaresFew f → (body all f).declared ≤ 50_000
  counted_few law = subst (λ (n : ℕ). n ≤ 50_000) (sym is.count)
      (law is.locals is.distinct (all_so (Contains (locals_of (body_of f))) is.locals (λ x c. ((is.are x).0 c).0)) (all_so (λ (x : ℕ). Contains (args_of f) x → ⊥) is.locals (λ x c. ((is.are x).0 c).1)))

  pub few_counted : (body all f).declared ≤ 50_000 → DeclaresFew f
  few_counted counted further apart used beside =
      let within : All (Contains is.locals) further = λ k d lt. (is.are (slice_index_or further k d)).1 (used k d lt, beside k d lt) in
      omega (arith, counted, is.count, no_longer further is.locals apart within)

-- ---- where all locals lie in a row

module _ (f : LocalFunction) (first count : ℕ) (short : count ≤ 50_000) (within : (x : ℕ) → Contains (locals_of (body_of f)) x → (first ≤ x) × (x < first + count)) where
  pub few_within : DeclaresFew f
  few_within further apart used beside =
      let few : length further ≤ count = pigeon first count further (apart_distinct further apart) (λ z in_further. within z (all_in (Contains (locals_of (body_of f))) further used z in_further)) in
      omega (arith, few, short)
