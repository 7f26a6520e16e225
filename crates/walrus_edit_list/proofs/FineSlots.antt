-- What stays well formed where functions and types stay, and what stands among slots that are written, emptied or added.
use Rattle.std.proofs.Common.{◌≡◌, ℕ, zero, suc, ◌+◌, List, [], ◌∷◌, ◌++◌, refl, sym, ap, ◌∙◌, subst, ⊎_elim}
use Rattle.std.specs.Prelude.{Option, Some, None, Contains, map, option_map, slice_set}
use Rattle.std.proofs.lemmas.Option.{none-some}
use Rattle.walrus_base.proofs.Lists.{Contains-head, Contains-none, Contains-tail, Contains-uncons}
use Rattle.walrus_base.proofs.Standing.{some_inj}
use Rattle.walrus_base.specs.Arena.{entries_from, item_at}
use Rattle.walrus_model.specs.Abstract.{Abstract, Body, Function, LocalFunction}
use Rattle.walrus_model.specs.Config.{Config}
use Rattle.walrus_edit_list.specs.Formed.{AreFormed}
use Rattle.walrus_edit_list.proofs.FormedStays.{stays_formed}

-- ---- bodies

-- where types stay, and a body that is there was there
pub carried : (c : Config) (v w : Abstract) → ((t : ℕ) → w.types t ≡ v.types t)
    → ((i : ℕ) (f : Function) (b : Body) → w.functions i ≡ Some f → f.kind ≡ LocalFunction b → v.functions i ≡ Some f)
    → AreFormed c v → AreFormed c w
carried c v w types bodies formed i f b at is = stays_formed c v w f.ty b types (formed i f b (bodies i f b at is) is)

-- ---- what is seen of slots

module _ {A B : Type 0} (see : A → B) where
  -- of one that is written so that it is seen as before
  pub same_seen : (xs : List (Option A)) (i j : ℕ) (x y : A) → item_at xs i ≡ Some x → see y ≡ see x
      → option_map see (item_at (slice_set xs i (Some y)) j) ≡ option_map see (item_at xs j)
  same_seen [] i j x y at same = refl
  same_seen (o ∷ xs) zero zero x y at same = ap (λ (z : B). Some z) same ∙ sym (ap (option_map see) at)
  same_seen (o ∷ xs) zero (suc j) x y at same = refl
  same_seen (o ∷ xs) (suc i) zero x y at same = refl
  same_seen (o ∷ xs) (suc i) (suc j) x y at same = same_seen xs i j x y at same

  -- another one than what was added stood there
  pub seen_before : (xs : List (Option A)) (y : A) (j : ℕ) (f : B) → option_map see (item_at (xs ++ Some y ∷ []) j) ≡ Some f → (see y ≡ f → ⊥)
      → option_map see (item_at xs j) ≡ Some f
  seen_before [] y zero f at differs = absurd (differs (some_inj (see y) f at))
  seen_before [] y (suc j) f at differs = absurd (none-some f at)
  seen_before (o ∷ xs) y zero f at differs = at
  seen_before (o ∷ xs) y (suc j) f at differs = seen_before xs y j f at differs

-- ---- the items

module _ {A : Type 0} where
  abbrev values_from : ℕ → List (Option A) → List A
  values_from k xs = map (λ (e : ℕ × A). e.1) (entries_from k xs)

  -- what stands at a place is among them
  pub among : (k : ℕ) (xs : List (Option A)) (i : ℕ) (x : A) → item_at xs i ≡ Some x → Contains (values_from k xs) x
  among k [] i x at = absurd (none-some x at)
  among k (None ∷ xs) zero x at = absurd (none-some x at)
  among k (None ∷ xs) (suc i) x at = among (k + 1) xs i x at
  among k (Some y ∷ xs) zero x at = subst (λ (z : A). Contains (values_from k (Some y ∷ xs)) z) (some_inj y x at) (Contains-head y (values_from (k + 1) xs))
  among k (Some y ∷ xs) (suc i) x at = Contains-tail y x (values_from (k + 1) xs) (among (k + 1) xs i x at)

  -- what is left once one is gone was there
  pub was_left : (k : ℕ) (xs : List (Option A)) (i : ℕ) (s : A) → Contains (values_from k (slice_set xs i None)) s → Contains (values_from k xs) s
  was_left k [] i s has = has
  was_left k (None ∷ xs) zero s has = has
  was_left k (None ∷ xs) (suc i) s has = was_left (k + 1) xs i s has
  was_left k (Some y ∷ xs) zero s has = Contains-tail y s (values_from (k + 1) xs) has
  was_left k (Some y ∷ xs) (suc i) s has = ⊎_elim
      (λ (is : y ≡ s). subst (λ (z : A). Contains (values_from k (Some y ∷ xs)) z) is (Contains-head y (values_from (k + 1) xs)))
      (λ more. Contains-tail y s (values_from (k + 1) xs) (was_left (k + 1) xs i s more))
      (Contains-uncons y s (values_from (k + 1) (slice_set xs i None)) has)

  module _ (P : A → Type 0) (y : A) (one : P y) where
    first_or : (zs : List A) → ((s : A) → Contains zs s → P s) → (s : A) → Contains (y ∷ zs) s → P s
    first_or zs all s has = ⊎_elim (λ (is : y ≡ s). subst P is one) (λ more. all s more) (Contains-uncons y s zs has)

    -- what holds of all holds of them and of one that is written, or added
    pub written_too : (k : ℕ) (xs : List (Option A)) (i : ℕ) → ((s : A) → Contains (values_from k xs) s → P s)
        → (s : A) → Contains (values_from k (slice_set xs i (Some y))) s → P s
    written_too k [] i all s has = all s has
    written_too k (None ∷ xs) zero all s has = first_or (values_from (k + 1) xs) all s has
    written_too k (None ∷ xs) (suc i) all s has = written_too (k + 1) xs i all s has
    written_too k (Some x ∷ xs) zero all s has = first_or (values_from (k + 1) xs) (λ z more. all z (Contains-tail x z (values_from (k + 1) xs) more)) s has
    written_too k (Some x ∷ xs) (suc i) all s has = ⊎_elim
        (λ (is : x ≡ s). subst P is (all x (Contains-head x (values_from (k + 1) xs))))
        (λ more. written_too (k + 1) xs i (λ z rest. all z (Contains-tail x z (values_from (k + 1) xs) rest)) s more)
        (Contains-uncons x s (values_from (k + 1) (slice_set xs i (Some y))) has)

    pub added_too : (k : ℕ) (xs : List (Option A)) → ((s : A) → Contains (values_from k xs) s → P s)
        → (s : A) → Contains (values_from k (xs ++ Some y ∷ [])) s → P s
    added_too k [] all s has = first_or [] (λ z none. absurd (Contains-none z none)) s has
    added_too k (None ∷ xs) all s has = added_too (k + 1) xs all s has
    added_too k (Some x ∷ xs) all s has = ⊎_elim
        (λ (is : x ≡ s). subst P is (all x (Contains-head x (values_from (k + 1) xs))))
        (λ more. added_too (k + 1) xs (λ z rest. all z (Contains-tail x z (values_from (k + 1) xs) rest)) s more)
        (Contains-uncons x s (values_from (k + 1) (xs ++ Some y ∷ [])) has)
