-- The indices that a plan gives: each item that is there has one, nothing else has any, and no two of a space have the same.
use Rattle.std.proofs.Common.{inl, inr, ◌≡◌, ◌⊎◌, ℕ, suc, ◌<◌, Bool, true, false, List, [], ◌∷◌, length, get_or, refl, sym, ap, ◌∙◌, subst, arith, zero}
use Rattle.std.specs.Prelude.{◌≢◌, nat_eq, Option, Some, None, All, AllPairs, Contains, option_map, if◌then◌else◌, slice_get, unwrap_or}
use Rattle.std.proofs.lemmas.Bool.Decides.{eqb_tells}
use Rattle.walrus_base.specs.Operators.{Space}
use Rattle.walrus_base.specs.Shape.{place_in}
use Rattle.walrus_model.specs.Abstract.{Abstract}
use Rattle.walrus_model.specs.Customs.{AreIndices}
use Rattle.walrus_model.specs.Live.{Has, IsLive}
use Rattle.walrus_model.specs.Plan.{Plan, AreNumbered, numbers_by, IsPlan}
use Rattle.walrus_model.specs.Renaming.{Renaming}
use Rattle.walrus_base.proofs.Rising.{rising}
use Rattle.walrus_model.proofs.Spaces.{live_to, live_from}
use Rattle.walrus_base.proofs.Standing.{got_in, got_where, some_inj, stands_at}
use Rattle.walrus_base.proofs.WholeLemmas.{none_from as none_by}

-- ---- what is found at a place stands there

found_next : (x : ℕ) (xs : List ℕ) (t : ℕ) (o : Option ℕ) → ((k : ℕ) → o ≡ Some k → slice_get xs k ≡ Some t) → (k : ℕ) → option_map suc o ≡ Some k → slice_get (x ∷ xs) k ≡ Some t
found_next x xs t None h k e = absurd (cc)
found_next x xs t (Some j) h k e = let p : suc j ≡ k = cc in subst (λ n. slice_get (x ∷ xs) n ≡ Some t) p (h j refl)

found_here : (x : ℕ) (xs : List ℕ) (t : ℕ) → ((nat_eq x t ≡ true) × (x ≡ t)) ⊎ ((nat_eq x t ≡ false) × (x ≢ t)) → ((k : ℕ) → place_in xs t ≡ Some k → slice_get xs k ≡ Some t) → (k : ℕ) → place_in (x ∷ xs) t ≡ Some k → slice_get (x ∷ xs) k ≡ Some t
found_here x xs t (inl q) h k e =
    let first : Some 0 ≡ Some k = sym (ap (λ (b : Bool). if b then Some 0 else option_map suc (place_in xs t)) q.0) ∙ e in
    let p : 0 ≡ k = cc in
    subst (λ n. slice_get (x ∷ xs) n ≡ Some t) p (ap (λ (y : ℕ). Some y) q.1)
found_here x xs t (inr q) h k e =
    found_next x xs t (place_in xs t) h k (sym (ap (λ (b : Bool). if b then Some 0 else option_map suc (place_in xs t)) q.0) ∙ e)

pub found_at : (xs : List ℕ) (t k : ℕ) → place_in xs t ≡ Some k → slice_get xs k ≡ Some t
found_at [] t k e = absurd (cc)
found_at (x ∷ xs) t k e = found_here x xs t (eqb_tells x t) (found_at xs t) k e

-- ---- all spaces

module _ {names : Space → ℕ → Option ℕ} {plan : Plan} {v : Abstract} (numbered : AreNumbered names plan) (is_plan : IsPlan v plan) (s : Space) (i : ℕ) where
  -- what has an index stands there in the plan
  pub planned_at : (k : ℕ) → names s i ≡ Some k → slice_get (plan s) k ≡ Some i
  planned_at k e = found_at (plan s) i k (sym (numbered s i) ∙ e)

  -- what stands in the plan has that index
  pub planned_index : (k : ℕ) → slice_get (plan s) k ≡ Some i → names s i ≡ Some k
  planned_index k at = numbered s i ∙ stands_at (plan s) i k (is_plan.holds s).differ at

  pub planned_live : (k : ℕ) → names s i ≡ Some k → IsLive v (s, i)
  planned_live k e = let g = got_in (plan s) k i (planned_at k e) in live_from v s i ((is_plan.holds s).chosen i (k, g.0, g.1 i))

  pub planned_named : IsLive v (s, i) → names s i ≡ Some (numbers_by names s i)
  planned_named live =
      let c : Contains (plan s) i = (is_plan.holds s).all i (live_to v s i live) in
      let at : names s i ≡ Some c.0 = planned_index c.0 (got_where (plan s) i c) in
      at ∙ sym (ap (λ (o : Option ℕ). Some (unwrap_or o 0)) at)

  pub planned_stands : IsLive v (s, i) → slice_get (plan s) (numbers_by names s i) ≡ Some i
  planned_stands live = planned_at (numbers_by names s i) (planned_named live)

  pub planned_below : (k : ℕ) → names s i ≡ Some k → k < length (plan s)
  planned_below k e = (got_in (plan s) k i (planned_at k e)).0

  pub planned_one : (j k : ℕ) → names s i ≡ Some k → names s j ≡ Some k → i ≡ j
  planned_one j k e g = some_inj i j (sym (planned_at k e) ∙ found_at (plan s) j k (sym (numbered s j) ∙ g))

pub planned_indices : (names : Space → ℕ → Option ℕ) (plan : Plan) (v : Abstract) (r : Renaming) → AreNumbered names plan → IsPlan v plan → ((s : Space) (i : ℕ) → r.numbers s i ≡ numbers_by names s i) → AreIndices v r (λ x. names x.0 x.1)
planned_indices names plan v r numbered is_plan by = record {
  live = λ x l. planned_named numbered is_plan x.0 x.1 l ∙ ap (λ (n : ℕ). Some n) (sym (by x.0 x.1));
  dead = λ x d. none_by (names x.0 x.1) (λ k e. d (planned_live numbered is_plan x.0 x.1 k e));
}

same_at : (xs : List ℕ) (k d e : ℕ) → k < length xs → get_or xs k e ≡ get_or xs k d
same_at [] k d e low = absurd (omega (arith, low))
same_at (x ∷ xs) zero d e low = refl
same_at (x ∷ xs) (suc k) d e low = same_at xs k d e (omega (arith, low))

-- the numbers that it holds, by rising size
pub planned_rising : (v : Abstract) (plan : Plan) → IsPlan v plan → (s : Space) → (numbers : List ℕ) × AllPairs (λ i j. i < j) numbers × All (Has v s) numbers × (length numbers ≡ length (plan s))
planned_rising v plan is_plan s =
    rising (Has v s) (plan s) (is_plan.holds s).differ (λ k d low. live_from v s (get_or (plan s) k d) ((is_plan.holds s).chosen (get_or (plan s) k d) (k, low, same_at (plan s) k d (get_or (plan s) k d) low)))
