-- What an index of types has after an id was put in.
use Rattle.std.proofs.Common.{◌≡◌, ℕ, ◌||◌, Bool, true, false, cond, List, [], ◌∷◌, ◌++◌, map, Option, Some, None, IsSome, refl, ap, sym, ◌∙◌, eq-eqb, Ordering, Equal, ◌⊎◌, ⊎_elim, inl, inr}
use Rattle.std.specs.Ordering.{is_eq}
use Rattle.std.specs.BTreeMap.{BTreeMap, get, get_by, is_at, WritesThrough, Updates}
use Rattle.std.specs.Cmp.{IsTotalOrder}
use Rattle.std.specs.Global.{Vec}
use mathlib.Core.Path.{fun_ext}
use Rattle.walrus_base.specs.Id.{place}
use Rattle.walrus_base.specs.declared.id.Id.{Id}
use Rattle.walrus_base.specs.declared.keys.TypeKey.{TypeKey}
use Rattle.walrus_base.specs.Index.{places_of}
use Rattle.walrus_base.specs.PlaceList.{has, MayEndIn}
use Rattle.walrus_base.proofs.FunctionSame.{is_equal as equal_from}
use Rattle.std.proofs.lemmas.Bool.{or_left, or_right}

pub or_cases : (a b : Bool) → (a || b) ≡ true → (a ≡ true) ⊎ (b ≡ true)
or_cases true b h = inl refl
or_cases false b h = inr h

-- a list with one more id has what it had, and that id
pub has-push_old : (ids : List (Id TypeKey)) (id : Id TypeKey) (p : ℕ) → has (map place ids) p ≡ true → has (map place (ids ++ id ∷ [])) p ≡ true
has-push_old [] id p h = absurd cc
has-push_old (x ∷ xs) id p h =
    ⊎_elim (λ l. or_left _ _ l) (λ r. or_right _ _ (has-push_old xs id p r)) (or_cases _ _ h)

pub has-push_new : (ids : List (Id TypeKey)) (id : Id TypeKey) → has (map place (ids ++ id ∷ [])) (place id) ≡ true
has-push_new [] id = or_left _ _ (eq-eqb (place id) (place id) refl)
has-push_new (x ∷ xs) id = or_right _ _ (has-push_new xs id)

ends_in : (Cause : Type 0) (b : Bool) (old_q old_k new_q : Option (Vec (Id TypeKey))) (v : Vec (Id TypeKey)) (p : ℕ) → new_q ≡ cond b (Some v) old_q → (b ≡ true → (old_q ≡ old_k) × Cause)
    → (map place v.items ≡ places_of old_k) ⊎ (map place v.items ≡ places_of old_k ++ p ∷ []) → MayEndIn Cause (places_of old_q) p (places_of new_q)
ends_in Cause true old_q old_k new_q v p is same ends =
    let at = same refl in
    ⊎_elim
    (λ e. inl (ap (λ o. places_of o) is ∙ e ∙ ap (λ o. places_of o) (sym at.0)))
    (λ e. inr (at.1, ap (λ o. places_of o) is ∙ e ∙ ap (λ o. places_of o ++ p ∷ []) (sym at.0)))
    ends
ends_in Cause false old_q old_k new_q v p is same ends = inl (ap (λ o. places_of o) is)

noted_at : (b : Bool) (old_q new_q : Option (Vec (Id TypeKey))) (v : Vec (Id TypeKey)) (p : ℕ) → new_q ≡ cond b (Some v) old_q → b ≡ true → has (map place v.items) p ≡ true → has (places_of new_q) p ≡ true
noted_at true old_q new_q v p is t h = rw is h
noted_at false old_q new_q v p is t h = absurd cc

is_some_from : (o : Option (Vec (Id TypeKey))) (v : Vec (Id TypeKey)) → o ≡ Some v → IsSome o
is_some_from (Some w) v h = refl
is_some_from None v h = absurd cc

module _ {K : Type 0} {R : K → K → Ordering} (total : IsTotalOrder R) (m n : BTreeMap K (Vec (Id TypeKey))) (k : K) (v : Vec (Id TypeKey)) where
  at_equal : (q : K) → R k q ≡ Equal → get R m q ≡ get R m k
  at_equal q same = ap (λ c. get_by c m) (sym (fun_ext (λ z. total.congr k q z same)))

  -- written through what was lent: where the list is as it was, or has an id behind, so is each list
  pub pushed_ends : (Cause : K → Type 0) → ((q : K) → R k q ≡ Equal → Cause q) → (ids : Vec (Id TypeKey)) → WritesThrough R (R k) m v n → get R m k ≡ Some ids → (p : ℕ)
      → (map place v.items ≡ map place ids.items) ⊎ (map place v.items ≡ map place ids.items ++ p ∷ []) → (q : K) → MayEndIn (Cause q) (places_of (get R m q)) p (places_of (get R n q))
  pushed_ends Cause because ids w found p ends q =
      ends_in (Cause q) (is_at (R k) q) (get R m q) (get R m k) (get R n q) v p ((w.3 (is_some_from _ ids found)).0 q)
      (λ t. let same = equal_from _ t in (at_equal q same, because q same))
      (⊎_elim (λ e. inl (e ∙ ap (λ o. places_of o) (sym found))) (λ e. inr (e ∙ ap (λ o. places_of o ++ p ∷ []) (sym found))) ends)

  -- and an id that it has stands at each equal key
  pub pushed_noted : (ids : Vec (Id TypeKey)) → WritesThrough R (R k) m v n → get R m k ≡ Some ids → (p : ℕ) → has (map place v.items) p ≡ true → (q : K) → R k q ≡ Equal → has (places_of (get R n q)) p ≡ true
  pushed_noted ids w found p there q same =
      noted_at (is_at (R k) q) (get R m q) (get R n q) v p ((w.3 (is_some_from _ ids found)).0 q) (ap is_eq same) there

  -- put in under a new key, with one id
  pub inserted_ends : (Cause : K → Type 0) → ((q : K) → R k q ≡ Equal → Cause q) → Updates R m n k (Some v) → (same_key : K) → R k same_key ≡ Equal → get R m same_key ≡ None → (p : ℕ) → map place v.items ≡ p ∷ []
      → (q : K) → MayEndIn (Cause q) (places_of (get R m q)) p (places_of (get R n q))
  inserted_ends Cause because updates same_key same none p one q =
      ends_in (Cause q) (is_at (R k) q) (get R m q) (get R m k) (get R n q) v p (updates.0 q)
      (λ t. let equal = equal_from _ t in (at_equal q equal, because q equal))
      (inr (one ∙ ap (λ o. places_of o ++ p ∷ []) (sym (sym (at_equal same_key same) ∙ none))))

  -- and what the new list has stands at each equal key
  pub inserted_noted : Updates R m n k (Some v) → (p : ℕ) → has (map place v.items) p ≡ true → (q : K) → R k q ≡ Equal → has (places_of (get R n q)) p ≡ true
  inserted_noted updates p there q same = noted_at (is_at (R k) q) (get R m q) (get R n q) v p (updates.0 q) (ap is_eq same) there
