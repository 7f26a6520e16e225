-- Imports that are chosen: which are marked, and what each brings.
use Rattle.std.proofs.Common.{◌≡◌, ℕ, ◌<◌, Bool, true, false, List, length, Option, Some, None, Ok, Err, refl, sym, ◌∙◌, subst, ⊎_elim}
use Rattle.walrus.specs.Base.Arena.{item_at}
use Rattle.walrus.specs.Base.Marks.{is_marked}
use Rattle.walrus.specs.Base.ImportKey.{ImportKey}
use Rattle.walrus.proofs.Base.Standing.{some_of}
use Rattle.walrus.specs.Items.Imports.{ImportValue, imported_function}
use Rattle.walrus.specs.Items.Error.TheVariants as error
use Rattle.walrus_sections.specs.Choice.{Choice}
use Rattle.walrus_tools.specs.MarkSteps.{Meets}
use Rattle.walrus_tools.specs.Stub.{BringsFunction}
use Rattle.walrus_tools.specs.StubMatching.{AreChosen, ChosenAt, HitFunctions, IsChosen, MarksChosen}
use Rattle.walrus_tools.specs.declared.marks.Marking.{Marking}
use Rattle.walrus_tools.proofs.MeantLemmas.{within}

untrue : false ≡ true → ⊥
untrue h = cc

module _ (modules names : List Choice) (slots : List (Option ImportValue)) where
  pub chosen_within : (i p : ℕ) → ChosenAt modules names slots i p → i < length slots
  chosen_within i p h = within slots i (λ none. subst (IsChosen modules names) none h.1)

  module _ (old new : Marking ImportKey) (marked : Meets (λ p. (i : ℕ) × ChosenAt modules names slots i p) old new) (unset : old.is_met ≡ false) (none : (p : ℕ) → is_marked old.marks p ≡ false) where
    place_chosen : (p : ℕ) → (i : ℕ) × ChosenAt modules names slots i p → IsChosen modules names (item_at slots p)
    place_chosen p (i, (is, chosen)) = subst (λ (k : ℕ). IsChosen modules names (item_at slots k)) (sym is) chosen

    pub chosen_marked : new.is_met ≡ true → MarksChosen modules names slots (Ok new.marks)
    chosen_marked met = (
      λ p. (
        λ h. ⊎_elim (λ (was : is_marked old.marks p ≡ true). absurd (untrue (sym (none p) ∙ was))) (λ (is : (i : ℕ) × ChosenAt modules names slots i p). place_chosen p is) (marked.adds.only p h),
        λ chosen. marked.adds.added p (p, (refl, chosen)),
      ),
      ⊎_elim (λ (was : old.is_met ≡ true). absurd (untrue (sym unset ∙ was))) (λ (is : (p : ℕ) × ((i : ℕ) × ChosenAt modules names slots i p)). (is.0, marked.adds.added is.0 is.1)) (marked.only met),
    )

    pub chosen_none : new.is_met ≡ false → MarksChosen modules names slots (Err error.NotFound)
    chosen_none unmet = λ p chosen. untrue (sym unmet ∙ marked.met p (p, (refl, chosen)))

  -- each that is chosen brings a function
  pub chosen_bring : (hits : ℕ → Bool) → AreChosen modules names slots hits → HitFunctions hits slots
  chosen_bring hits are p hit = by (item_at slots p) ((are p).0 hit) where
    by : (o : Option ImportValue) → IsChosen modules names o → BringsFunction o
    by None chosen = absurd chosen
    by (Some x) chosen = let f = some_of (imported_function x.kind) chosen.function in record { value = x; there = refl; id = f.0; function = f.1 }
