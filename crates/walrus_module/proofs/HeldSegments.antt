-- Whatever is held has its list of active segments.
use Rattle.std.proofs.Common.{◌≡◌, ℕ, zero, suc, Bool, true, false, List, [], ◌∷◌, Option, Some, None, option_map, refl, sym, subst}
use Rattle.std.specs.Prelude.{slice_get, ◌↔◌}
use Rattle.walrus_base.specs.Arena.{item_at}
use Rattle.walrus_contents.specs.View.{data_of, element_of}
use Rattle.walrus_items.specs.Data.{data_segments}
use Rattle.walrus_items.specs.Elements.{elements}
use Rattle.walrus_model.specs.Abstract.{DataSegment, Element}
use Rattle.walrus_theorem.specs.Engines.{AreAll, IsActive, IsActiveKind}
use Rattle.walrus_theorem.proofs.EditKept.{none_isnt, some_is}
use Rattle.walrus_theorem.proofs.EnginesHave.{active_same, all_of, data_same, is_active, is_data, numbers}
use Rattle.walrus_module.specs.Edits.{HeldHasSegments}

-- of slots that hold values, those whose item passes
module _ {V E : Type 0} (item : V → E) (P : E → Type 0) (passes : E → Bool) (same : (e : E) → P e ↔ (passes e ≡ true)) where
  abbrev pub slot_passes : Option V → Bool
  slot_passes None = false
  slot_passes (Some v) = passes (item v)

  abbrev pub Passes : Option V → Type 0
  Passes o = (e : E) × (option_map item o ≡ Some e) × P e

  slot_same : (o : Option V) → Passes o ↔ (slot_passes o ≡ true)
  slot_same None = ((λ (e, at, is). absurd (none_isnt at)), (λ h. absurd cc))
  slot_same (Some v) = ((λ (e, at, is). (same (item v)).0 (subst P (sym (some_is at)) is)), (λ h. (item v, refl, (same (item v)).1 h)))

  at_slot : (slots : List (Option V)) (i : ℕ) → ((o : Option V) × (slice_get slots i ≡ Some o) × Passes o) ↔ Passes (item_at slots i)
  at_slot [] i = ((λ (o, at, is). absurd (none_isnt at)), (λ (e, at, is). absurd (none_isnt at)))
  at_slot (x ∷ xs) zero = ((λ (o, at, is). subst Passes (sym (some_is at)) is), (λ is. (x, refl, is)))
  at_slot (x ∷ xs) (suc i) = at_slot xs i

  pub slots_listed : (slots : List (Option V)) → AreAll (λ i. Passes (item_at slots i)) (numbers slot_passes 0 slots)
  slots_listed slots =
      let all = all_of slot_passes Passes slot_same slots in
      record {
        rising = all.rising;
        are = λ i. ((λ at. (at_slot slots i).0 ((all.are i).0 at)), (λ is. (all.are i).1 ((at_slot slots i).1 is)));
      }

pub held_has_segments : HeldHasSegments
held_has_segments m ss = record {
  elements = numbers (slot_passes element_of (λ (e : Element). IsActive e.kind) (λ (e : Element). is_active e.kind) (λ e. active_same e.kind)) 0 (elements m.elements);
  elements_are = slots_listed element_of (λ (e : Element). IsActive e.kind) (λ (e : Element). is_active e.kind) (λ e. active_same e.kind) (elements m.elements);
  data_segments = numbers (slot_passes data_of (λ (d : DataSegment). IsActiveKind d.kind) (λ (d : DataSegment). is_data d.kind) (λ d. data_same d.kind)) 0 (data_segments m.data_);
  data_are = slots_listed data_of (λ (d : DataSegment). IsActiveKind d.kind) (λ (d : DataSegment). is_data d.kind) (λ d. data_same d.kind) (data_segments m.data_);
}
