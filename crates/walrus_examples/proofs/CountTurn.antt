-- Functions that begin with a call, place by place.
use Rattle.std.proofs.Common.{◌≡◌, ◌≢◌, ℕ, suc, ◌+◌, ◌<◌, ◌≤◌, List, [], ◌∷◌, length, map, Option, Some, None, option_map, slice_set, refl, sym, ◌∙◌, subst, ⊎_elim, arith, get_or}
use Rattle.std.specs.List.{AllZip}
use Rattle.std.proofs.lemmas.Bool.{cases_lt}
use Rattle.std.proofs.lemmas.List.{get_or-set_other, length-set, map-set}
use Rattle.walrus.specs.Base.Arena.{item_at}
use Rattle.walrus.specs.Items.FunctionKind.{FunctionKind}
use Rattle.walrus.specs.Items.Functions.{FunctionValue, function_value}
use Rattle.walrus.specs.Items.FunctionValue.{Function}
use Rattle.walrus.proofs.Theorem.EditKept.{some_there}
use Rattle.walrus.proofs.Modules.EditedSlots.{set_here}
use Rattle.walrus.proofs.Theorem.EditSpace.{equal_or}
use Rattle.walrus_examples.specs.Count.{KindCalls, PlaceCalls, SlotCalls}

-- at the first k places each function begins with the call, behind them all is as it was
pub record CallsSome (called k : ℕ) (old new : List (Option FunctionValue)) : Type 0 where
  pub done : (i : ℕ) → i < k → SlotCalls called (item_at old i) (item_at new i)
  pub left : (i : ℕ) → k ≤ i → item_at new i ≡ item_at old i
  pub same_length : length new ≡ length old

pub calls_begin : (called : ℕ) (old : List (Option FunctionValue)) → CallsSome called 0 old old
calls_begin called old = record { done = λ i lt. absurd (omega (arith, lt)); left = λ i le. refl; same_length = refl }

module _ (called k : ℕ) (old now new : List (Option FunctionValue)) (some : CallsSome called k old now) (one : PlaceCalls called k now new) where
  here : SlotCalls called (item_at old k) (item_at new k)
  here = subst (λ (o : Option FunctionValue). SlotCalls called o (item_at new k)) (some.left k (omega arith)) one.calls

  done : (i : ℕ) → i < k + 1 → SlotCalls called (item_at old i) (item_at new i)
  done i lt = ⊎_elim
      (λ (e : i ≡ k). subst (λ (j : ℕ). SlotCalls called (item_at old j) (item_at new j)) (sym e) here)
      (λ (differs : i ≢ k).
      let before : i < k = less i lt differs in
      subst (λ (o : Option FunctionValue). SlotCalls called (item_at old i) o) (sym (one.others i differs)) (some.done i before))
      (equal_or i k) where
        less : (i : ℕ) → i < k + 1 → i ≢ k → i < k
        less i lt differs = ⊎_elim (λ (below : i < k). below) (λ (above : k ≤ i). absurd (differs (omega (arith, lt, above)))) (cases_lt i k)

  pub calls_next : CallsSome called (k + 1) old new
  calls_next = record {
    done = done;
    left = λ i le. one.others i (λ e. omega (arith, le, e)) ∙ some.left i (omega (arith, le));
    same_length = one.same_length ∙ some.same_length;
  }

zip_at : {A B : Type 0} (R : Option A → Option B → Type 0) (xs : List (Option A)) (ys : List (Option B)) → length ys ≡ length xs → ((i : ℕ) → i < length xs → R (get_or xs i None) (get_or ys i None)) → AllZip R xs ys
zip_at R [] [] e h = tt
zip_at R [] (y ∷ ys) e h = absurd (omega (arith, e))
zip_at R (x ∷ xs) [] e h = absurd (omega (arith, e))
zip_at R (x ∷ xs) (y ∷ ys) e h = (h 0 (omega arith), zip_at R xs ys (omega (arith, e)) (λ i lt. h (suc i) (omega (arith, lt))))

-- at all places
pub calls_end : (called k : ℕ) (old new : List (Option FunctionValue)) → CallsSome called k old new → length old ≤ k → AllZip (SlotCalls called) old new
calls_end called k old new some le = zip_at (SlotCalls called) old new some.same_length (λ i lt. some.done i (omega (arith, lt, le)))

-- the function at a place is put back, begun with the call
pub call_put : (called : ℕ) (slots : List (Option Function)) (p : ℕ) (was : Function) (kind : FunctionKind) → item_at (map (option_map function_value) slots) p ≡ Some (function_value was) → KindCalls called was.kind kind
    → PlaceCalls called p (map (option_map function_value) slots) (map (option_map function_value) (slice_set slots p (Some (record was { kind = kind }))))
call_put called slots p was kind there calls =
    let set : map (option_map function_value) (slice_set slots p (Some (record was { kind = kind }))) ≡ slice_set (map (option_map function_value) slots) p (Some (record (function_value was) { kind = kind })) = map-set (option_map function_value) slots p (Some (record was { kind = kind })) in
    subst (λ (new : List (Option FunctionValue)). PlaceCalls called p (map (option_map function_value) slots) new) (sym set)
    (record {
      calls = subst (λ (o : Option FunctionValue). SlotCalls called o (item_at (slice_set (map (option_map function_value) slots) p (Some (record (function_value was) { kind = kind }))) p)) (sym there)
          (kind, set_here (map (option_map function_value) slots) p (Some (record (function_value was) { kind = kind })) (some_there (item_at (map (option_map function_value) slots) p) there), calls);
      others = λ i differs. get_or-set_other (map (option_map function_value) slots) p i (Some (record (function_value was) { kind = kind })) None differs;
      same_length = length-set (map (option_map function_value) slots) p (Some (record (function_value was) { kind = kind }));
    })
