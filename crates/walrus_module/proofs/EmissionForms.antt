-- From one form of emission to another, and what is answered where nothing was written.
use Rattle.std.proofs.Common.{◌≡◌, ℕ, Bool, true, sym, subst, refl, inl, inr, ap, ◌∙◌}
use Rattle.std.specs.Prelude.{Ok, Err}
use Rattle.std.specs.Global.{Vec}
use Rattle.walrus_code.specs.Transform.{Transform}
use Rattle.walrus_contents.specs.There.{IsRefusal}
use Rattle.walrus_items.specs.Elements.{elements}
use Rattle.walrus_items.specs.Errors.{out_of_memory}
use Rattle.walrus_items.specs.Transform.{transform_of}
use Rattle.walrus_items.specs.declared.custom.CustomSection.{Ghosts}
use Rattle.walrus_items.specs.declared.error.Error.{Error}
use Rattle.walrus_items.specs.declared.error.Error.TheVariants as error
use Rattle.walrus_items.specs.declared.transform.CodeTransform.{CodeTransform}
use Rattle.walrus_model.specs.Abstract.{Abstract}
use Rattle.walrus_model.specs.Dead.{HasDead}
use Rattle.walrus_model.specs.Declared.{NothingUndeclared}
use Rattle.walrus_theorem.specs.Refused.{PassesLimits}
use Rattle.walrus_writing.specs.Emitted.{refusal_of, told}
use Rattle.walrus_writing.specs.Transform.{IsTransformOf}
use Rattle.walrus_module.specs.Answered.{IsWellWritten}
use Rattle.walrus_module.specs.Emission.{EmitsBytes, EmitsTransform}
use Rattle.walrus_module.specs.Flags.{config_of}
use Rattle.walrus_module.specs.Following.{OneMayRefuseThen}
use Rattle.walrus_module.specs.Left.{AddsDeclared, AsTheyWere, ChangesElements, LeavesBy, but_customs}
use Rattle.walrus_module.specs.Settings.{settings}
use Rattle.walrus_module.specs.View.{held_view, locations_of, view}
use Rattle.walrus_module.specs.declared.entry.SectionEntry.{SectionEntry}
use Rattle.walrus_module.specs.declared.module.Module.{Module}
use Rattle.walrus_module.proofs.Declaring.{ids_left}
use Rattle.walrus_module.proofs.Emission.{left_refused, stays_but, well_refused_too}
use Rattle.walrus_module.proofs.OwnSections.{dead_refused, module_unchanged, nothing_back}
use Rattle.walrus_module.proofs.WellWritten.{well_refused}
use Rattle.walrus_module.proofs.WrittenSections.{left_err, left_told, refused_then, unfollowed, unfollowed_same}

module _ {V : Type 0} {O : V → Type 0} (G : (v : V) → Ghosts (O v)) (old new : Module (SectionEntry V O)) where
  -- ---- the bytes alone of what was answered with a transform

  pub bytes_answered : (asked : Bool) (bytes : Vec ℕ) (t : CodeTransform) → EmitsTransform G old new asked (Ok (bytes, t)) → EmitsBytes G old new (Ok bytes)
  bytes_answered asked bytes t said = let it = said.emits in let flags = settings old in record {
    left = it.left;
    segments = it.segments;
    others = it.others;
    settled = it.settled;
    customs = left_told G Error flags.preserve_code_transform _ _ _ old.customs new.customs (bytes, t) bytes
        (λ on x is sayable. subst (λ (t : Transform). IsTransformOf (config_of flags) true (locations_of new) (view G new) bytes.items t) (sym is)
        (subst (λ (b : Bool). IsTransformOf (config_of flags) b (locations_of new) (view G new) bytes.items (transform_of t)) on (said.transform (inl on) sayable)))
        it.customs;
    raw = it.raw;
    emitted = it.emitted;
    declared = it.declared;
    refused = it.refused;
    well_made = it.well_made;
    own_ids = it.own_ids;
  }

  pub bytes_refused : (asked : Bool) (e : Error) → EmitsTransform G old new asked (Err e) → EmitsBytes G old new (Err e)
  bytes_refused asked e said =
      let it = said.emits in
      let flags = settings old in
      let A = OneMayRefuseThen G old.customs new.customs in
      record {
        left = left_refused (Vec ℕ × CodeTransform) (Vec ℕ) (view G old) (view G (but_customs old new)) (refusal_of e) it.left;
        segments = it.segments;
        others = it.others;
        settled = it.settled;
        customs = left_err G flags.preserve_code_transform _ _ _ old.customs new.customs e it.customs;
        raw = it.raw;
        emitted = tt;
        declared = tt;
        refused = refused_then A A (λ a. a) (config_of flags) (view G new) (Vec ℕ × CodeTransform) (Vec ℕ) (refusal_of e) it.refused;
        well_made = λ made. well_refused_too (Vec ℕ × CodeTransform) (Vec ℕ) (PassesLimits (config_of flags) (view G new)) A
            (λ (r : Vec ℕ × CodeTransform). IsWellWritten (config_of flags) (view G new) r.0.items) (λ (r : Vec ℕ). IsWellWritten (config_of flags) (view G new) r.items) (refusal_of e) (it.well_made made);
        own_ids = it.own_ids;
      }

  -- ---- where memory ran out before anything was written

  pub memory_refused : (asked : Bool) → ChangesElements old new → held_view new ≡ held_view old → AddsDeclared (elements old.elements) (elements new.elements) → (NothingUndeclared (held_view old) → new ≡ old)
      → EmitsTransform G old new asked (Err out_of_memory)
  memory_refused asked others same segments settled = record {
    emits = record {
      left = inr (ap (view G) (stays_but old new others new.customs) ∙ module_unchanged G old new others same);
      segments = segments;
      others = ap (λ (m : Module (SectionEntry V O)). record m { customs = old.customs }) others;
      settled = λ nothing. stays_but old new others new.customs ∙ settled (nothing_back (held_view old) (view G old).customs (view G old).section_roots nothing);
      customs = unfollowed_same G (settings old).preserve_code_transform _ _ old.customs new.customs _ (ap (λ (m : Module (SectionEntry V O)). m.customs) others);
      raw = λ are. ap (λ (m : Module (SectionEntry V O)). m.customs) others;
      emitted = tt;
      declared = tt;
      refused = tt;
      well_made = λ made. tt;
      own_ids = ids_left old new others segments;
    };
    transform = λ on. tt;
  }

module _ {V : Type 0} {O : V → Type 0} (G : (v : V) → Ghosts (O v)) (old : Module (SectionEntry V O)) where
  -- ---- where something that is named isn't there, or memory ran out before it was looked for

  left_alone : (X : Type 0) (v : Abstract) (P : Type 0) (e : Error) → IsRefusal P e → LeavesBy {X = X} v v (told {X = X} (Err e))
  left_alone X v P (error.Memory m) r = inr refl
  left_alone X v P error.DeadItem r = refl
  left_alone X v P _ r = absurd r

  pub dead_answered : (asked : Bool) (e : Error) → IsRefusal (HasDead (held_view old)) e → EmitsTransform G old old asked (Err e)
  dead_answered asked e dead =
      let flags = settings old in
      let A = OneMayRefuseThen G old.customs old.customs in
      let refused = dead_refused (Vec ℕ × CodeTransform) A (config_of flags) (held_view old) (view G old).customs (view G old).section_roots e dead in
      record {
        emits = record {
          left = left_alone (Vec ℕ × CodeTransform) (view G old) (HasDead (held_view old)) e dead;
          segments = AsTheyWere refl;
          others = refl;
          settled = λ nothing. refl;
          customs = unfollowed G flags.preserve_code_transform _ _ old.customs e;
          raw = λ are. refl;
          emitted = tt;
          declared = tt;
          refused = refused;
          well_made = λ made. well_refused (λ (r : Vec ℕ × CodeTransform). r.0.items) A (config_of flags) (view G old) (refusal_of e) made refused;
          own_ids = λ own. own;
        };
        transform = λ on. tt;
      }
