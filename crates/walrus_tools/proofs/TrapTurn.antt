-- Functions that trap, place by place, and what that comes to for those that are meant.
use Rattle.std.proofs.Common.{◌≡◌, ◌≢◌, ℕ, ◌+◌, ◌<◌, ◌≤◌, Bool, true, false, List, length, map, Option, Some, None, option_map, slice_set, refl, sym, ap, ◌∙◌, subst, inl, inr, ⊎_elim, arith}
use Rattle.std.specs.Prelude.{◌⊎◌}
use Rattle.std.proofs.lemmas.Bool.{cases_lt}
use Rattle.std.proofs.lemmas.List.{get_or-set_other, get_or_past, length-set, map-set}
use Rattle.std.proofs.lemmas.List.Elements.{All-contains}
use Rattle.walrus.specs.Base.Arena.{item_at}
use Rattle.walrus.specs.Base.Marks.{is_marked}
use Rattle.walrus.specs.Base.FunctionKey.{FunctionKey}
use Rattle.walrus.specs.Base.MarksValue.{Marks}
use Rattle.walrus.specs.Items.Exports.{ExportValue}
use Rattle.walrus.specs.Items.FunctionKind.{FunctionKind}
use Rattle.walrus.specs.Items.FunctionKind.TheVariants.{Import, Local, Uninitialized}
use Rattle.walrus.specs.Items.Functions.{FunctionValue, function_value}
use Rattle.walrus.specs.Items.FunctionValue.{Function}
use Rattle.walrus.proofs.Theorem.EditKept.{some_there}
use Rattle.walrus.proofs.Modules.EditedSlots.{set_here}
use Rattle.walrus_tools.specs.MarkSteps.{AreMarks}
use Rattle.walrus_tools.specs.FunctionMeaning.{AreMeant, MeansBodies, has_body}
use Rattle.walrus_tools.specs.TrapEdit.{HitTrap, KindTraps, MeantTrap, PlaceTraps, SlotTraps, Trapped, TrapsIf}

untrue : false ≡ true → ⊥
untrue h = cc

-- ---- place by place

-- a place where nothing stands is as it was
stays_none : (hit : Bool) (old new : Option FunctionValue) → old ≡ None → new ≡ old → TrapsIf hit old new
stays_none true old new none same = subst (λ (o : Option FunctionValue). SlotTraps o new) (sym none) (same ∙ none)
stays_none false old new none same = same

-- at the first k places all is done, behind them all is as it was
pub record TrapsSome (hits : ℕ → Bool) (k : ℕ) (old new : List (Option FunctionValue)) : Type 0 where
  pub done : (i : ℕ) → i < k → TrapsIf (hits i) (item_at old i) (item_at new i)
  pub left : (i : ℕ) → k ≤ i → item_at new i ≡ item_at old i
  pub same_length : length new ≡ length old

pub traps_begin : (hits : ℕ → Bool) (old : List (Option FunctionValue)) → TrapsSome hits 0 old old
traps_begin hits old = record { done = λ i lt. absurd (omega (arith, lt)); left = λ i le. refl; same_length = refl }

module _ (hits : ℕ → Bool) (k : ℕ) (old now new : List (Option FunctionValue)) (some : TrapsSome hits k old now) (one : PlaceTraps (hits k) k now new) where
  here : TrapsIf (hits k) (item_at old k) (item_at new k)
  here = subst (λ (o : Option FunctionValue). TrapsIf (hits k) o (item_at new k)) (some.left k (omega arith)) one.here

  done : (i : ℕ) → i < k + 1 → TrapsIf (hits i) (item_at old i) (item_at new i)
  done i lt = ⊎_elim
      (λ (before : i < k).
      let differs : i ≢ k = λ is. omega (arith, before, is) in
      subst (λ (o : Option FunctionValue). TrapsIf (hits i) (item_at old i) o) (sym (one.others i differs)) (some.done i before))
      (λ (after : k ≤ i). let is : i ≡ k = omega (arith, lt, after) in subst (λ (j : ℕ). TrapsIf (hits j) (item_at old j) (item_at new j)) (sym is) here)
      (cases_lt i k)

  pub traps_next : TrapsSome hits (k + 1) old new
  traps_next = record {
    done = done;
    left = λ i le. one.others i (λ e. omega (arith, le, e)) ∙ some.left i (omega (arith, le));
    same_length = one.same_length ∙ some.same_length;
  }

-- at all places
pub traps_end : (hits : ℕ → Bool) (k : ℕ) (old new : List (Option FunctionValue)) → TrapsSome hits k old new → length old ≤ k → HitTrap hits old new
traps_end hits k old new some le = λ p. ⊎_elim
    (λ (lt : p < k). some.done p lt)
    (λ (past : k ≤ p). stays_none (hits p) (item_at old p) (item_at new p) (get_or_past old p None (omega (arith, le, past))) (some.left p past))
    (cases_lt p k)

-- the function at a place is put back, and traps
module _ (slots : List (Option Function)) (p : ℕ) (was : Function) (kind : FunctionKind) where
  abbrev before : List (Option FunctionValue)
  before = map (option_map function_value) slots

  abbrev now_there : Option FunctionValue
  now_there = Some (record (function_value was) { kind = kind })

  put : item_at before p ≡ Some (function_value was) → KindTraps was.kind kind → PlaceTraps true p before (slice_set before p now_there)
  put there traps = record {
    here = subst (λ (o : Option FunctionValue). SlotTraps o (item_at (slice_set before p now_there) p)) (sym there) (kind, set_here before p now_there (some_there (item_at before p) there), traps);
    others = λ i differs. get_or-set_other before p i now_there None differs;
    same_length = length-set before p now_there;
  }

  pub trap_put : (hit : Bool) → hit ≡ true → item_at before p ≡ Some (function_value was) → KindTraps was.kind kind → PlaceTraps hit p before (map (option_map function_value) (slice_set slots p (Some (record was { kind = kind }))))
  trap_put hit is there traps =
      subst (λ (b : Bool). PlaceTraps b p before (map (option_map function_value) (slice_set slots p (Some (record was { kind = kind }))))) (sym is)
      (subst (λ (new : List (Option FunctionValue)). PlaceTraps true p before new) (sym (map-set (option_map function_value) slots p (Some (record was { kind = kind })))) (put there traps))

-- ---- those that are meant

slot_trapped : (old new : Option FunctionValue) → SlotTraps old new → has_body old ≡ true → Trapped old new
slot_trapped None new same has = absurd (untrue has)
slot_trapped (Some f) new (kind, is, traps) has = by f.kind refl traps where
  by : (k : FunctionKind) → f.kind ≡ k → KindTraps k kind → Trapped (Some f) new
  by (Local l) e (g, same, trap) = record { function = f; was = refl; body = l; had = e; trap = g; is = is ∙ ap (λ (k : FunctionKind). Some (record f { kind = k })) same; same = trap }
  by (Import i) e same = absurd (untrue (sym (ap (λ (k : FunctionKind). has_body (Some (record f { kind = k }))) e) ∙ has))
  by (Uninitialized ty) e same = absurd (untrue (sym (ap (λ (k : FunctionKind). has_body (Some (record f { kind = k }))) e) ∙ has))

-- what is marked traps, and so what is meant
pub meant_trap : (fs gs : List (Option FunctionValue)) (es : List (Option ExportValue)) (all : List (List ℕ)) (marks : Marks FunctionKey) → AreMarks fs es all marks → HitTrap (is_marked marks) fs gs → MeantTrap (AreMeant fs es all) fs gs
meant_trap fs gs es all marks are hit p = by (is_marked marks p) refl (hit p) where
  body : AreMeant fs es all p → has_body (item_at fs p) ≡ true
  body (text, has, means) = (All-contains (MeansBodies fs es) all text are.pass has).each p means

  by : (b : Bool) → is_marked marks p ≡ b → TrapsIf b (item_at fs p) (item_at gs p) → (AreMeant fs es all p × Trapped (item_at fs p) (item_at gs p)) ⊎ ((AreMeant fs es all p → ⊥) × (item_at gs p ≡ item_at fs p))
  by true is t = let m = (are.are p).0 is in inl (m, slot_trapped (item_at fs p) (item_at gs p) t (body m))
  by false is t = inr (λ m. untrue (sym is ∙ (are.are p).1 m), t)
