-- Those of a list of which something holds: of parts by a test, and of slots in which only those are left.
use Rattle.std.proofs.Common.{◌≡◌, ℕ, zero, suc, ◌+◌, Bool, true, false, List, [], ◌∷◌, ◌++◌, flat_map, length, map, Option, Some, None, inl, inr, refl, sym, ap, ◌∙◌, subst, arith}
use Rattle.std.specs.Prelude.{◌↔◌, if◌then◌else◌}
use Rattle.walrus.specs.Base.Arena.{entries_from, item_at, items}
use Rattle.walrus.proofs.Base.Standing.{some_inj}
use Rattle.walrus.specs.Model.Abstract.{Name}
use Rattle.walrus.proofs.Theorem.EditKept.{none_isnt}
use Rattle.walrus_tools.specs.DroppedList.{dropped_of, functions_among, listed_part}
use Rattle.walrus_tools.specs.FunctionList.{ListedFunction}
use Rattle.walrus_sections.specs.Parts.{Part, SectionPart, FunctionPart, SegmentPart}
use Rattle.walrus_tools.specs.Those.{AreThose}
use Rattle.walrus_sections.specs.declared.parts.Item.{Item}
use Rattle.std.proofs.lemmas.Bool.{false≢true as untrue}

-- ---- of parts

module _ (stays : ℕ → Bool) (Stays : ℕ → Type 0) (tells : (f : ℕ) → (stays f ≡ true) ↔ Stays f) (names : ℕ → List Name) where
  -- of these parts, the functions that don't stay, and what is listed of the parts
  pub record IsGone (parts : List Part) : Type 0 where
    pub gone : List Item
    pub are : AreThose (λ f. Stays f.index → ⊥) (functions_among parts) gone
    pub listed : flat_map (dropped_of stays names) parts ≡ map (listed_part names) gone

  one_part : (f : Item) (parts : List Part) (b : Bool) → stays f.index ≡ b → IsGone parts → IsGone (FunctionPart f ∷ parts)
  one_part f parts true is g = record {
    gone = g.gone;
    are = inr ((λ goes. goes ((tells f.index).0 is)), g.are);
    listed = ap (λ (b : Bool). (if b then [] else listed_part names f ∷ []) ++ flat_map (dropped_of stays names) parts) is ∙ g.listed;
  }
  one_part f parts false is g = record {
    gone = f ∷ g.gone;
    are = inl (g.gone, (λ kept. untrue (sym is ∙ (tells f.index).1 kept)), refl, g.are);
    listed = ap (λ (b : Bool). (if b then [] else listed_part names f ∷ []) ++ flat_map (dropped_of stays names) parts) is ∙ ap (λ (fs : List ListedFunction). listed_part names f ∷ fs) g.listed;
  }

  pub gone_of : (parts : List Part) → IsGone parts
  gone_of [] = record { gone = []; are = refl; listed = refl }
  gone_of (SectionPart p ∷ parts) = let g = gone_of parts in record { gone = g.gone; are = g.are; listed = g.listed }
  gone_of (FunctionPart f ∷ parts) = one_part f parts (stays f.index) refl (gone_of parts)
  gone_of (SegmentPart d ∷ parts) = let g = gone_of parts in record { gone = g.gone; are = g.are; listed = g.listed }

-- ---- of slots

module _ {T : Type 0} (P : T → Type 0) where
  abbrev items_from : ℕ → List (Option T) → List T
  items_from k slots = map (λ (e : ℕ × T). e.1) (entries_from k slots)

  -- what is left at a place was there, and P holds of it; and what was there of which P holds is left
  abbrev IsLeft : (was is : Option T) → Type 0
  IsLeft was is = ((x : T) → is ≡ Some x → P x × (was ≡ Some x)) × ((x : T) → was ≡ Some x → P x → is ≡ Some x)

  those_from : (k : ℕ) (old new : List (Option T)) → length new ≡ length old → ((i : ℕ) → IsLeft (item_at old i) (item_at new i)) → AreThose P (items_from k old) (items_from k new)
  those_from k [] [] long each = refl
  those_from k [] (y ∷ new) long each = absurd (omega (arith, long))
  those_from k (x ∷ old) [] long each = absurd (omega (arith, long))
  those_from k (None ∷ old) (None ∷ new) long each = those_from (k + 1) old new (omega (arith, long)) (λ i. each (suc i))
  those_from k (None ∷ old) (Some y ∷ new) long each = absurd (none_isnt (((each zero).0 y refl).1))
  those_from k (Some x ∷ old) (None ∷ new) long each = inr ((λ so. none_isnt ((each zero).1 x refl so)), those_from (k + 1) old new (omega (arith, long)) (λ i. each (suc i)))
  those_from k (Some x ∷ old) (Some y ∷ new) long each =
      let here = (each zero).0 y refl in
      let same : y ≡ x = some_inj y x (sym here.1) in
      inl (items_from (k + 1) new, subst P same here.0, ap (λ (z : T). z ∷ items_from (k + 1) new) same, those_from (k + 1) old new (omega (arith, long)) (λ i. each (suc i)))

  pub those_left : (old new : List (Option T)) → length new ≡ length old → ((i : ℕ) → IsLeft (item_at old i) (item_at new i)) → AreThose P (items old) (items new)
  those_left old new long each = those_from 0 old new long each
