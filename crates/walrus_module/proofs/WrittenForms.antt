-- What is answered where the parts of a module aren't written.
use Rattle.std.proofs.Common.{◌≡◌, ℕ, Bool, true, false, inl, refl, sym, subst, ◌∙◌, ⊎_elim}
use Rattle.std.specs.Prelude.{IfOk, Result, Ok, Err}
use Rattle.std.specs.Global.{Vec}
use Rattle.std.proofs.lemmas.Bool.{false≢true}
use Rattle.walrus_code.specs.Names.{Lookup}
use Rattle.walrus_contents.specs.View.{lent}
use Rattle.walrus_contents.specs.declared.parts.Parts.{Parts}
use Rattle.walrus_items.specs.Transform.{transform_of}
use Rattle.walrus_items.specs.declared.custom.CustomSection.{Ghosts}
use Rattle.walrus_items.specs.declared.error.Error.{Error}
use Rattle.walrus_items.specs.declared.transform.CodeTransform.{CodeTransform}
use Rattle.walrus_theorem.specs.Refused.{IsSayable, RefusesToWrite}
use Rattle.walrus_writing.specs.Emitted.{refusal_of, told}
use Rattle.walrus_writing.specs.Transform.{IsTransformOf, locations_at}
use Rattle.walrus_module.specs.Asked.{OneAskedMayRefuse, asked_first}
use Rattle.walrus_module.specs.Customs.{sections}
use Rattle.walrus_module.specs.Flags.{Flags, config_of}
use Rattle.walrus_module.specs.Following.{AreRaw, IsToldOf, LeavesCustoms, OneMayRefuseThen}
use Rattle.walrus_module.specs.View.{meant}
use Rattle.walrus_module.specs.Written.{FollowsCode, WritesParts, WritesSections, module_with}
use Rattle.walrus_module.specs.declared.customs.ModuleCustomSections.{ModuleCustomSections}
use Rattle.walrus_module.specs.declared.entry.SectionEntry.{SectionEntry}
use Rattle.walrus_module.proofs.WrittenSections.{refused_then}

module _ {V : Type 0} {O : V → Type 0} (G : (v : V) → Ghosts (O v)) (f : Flags) (parts : Parts) where
  pub follow_refused : (indices : Lookup) (old new : ModuleCustomSections (SectionEntry V O)) (e : Error)
      → LeavesCustoms G {X = CodeTransform} true (λ t x. x ≡ transform_of t) (IsToldOf (config_of f) (lent parts) (asked_first (meant G old))) old new (Err e)
      → RefusesToWrite {X = Unit {0}} (OneAskedMayRefuse (meant G old)) (config_of f) (module_with G f parts new) (Err (refusal_of e)) → (AreRaw (sections old) → new ≡ old)
      → FollowsCode G f parts indices old new (Err e)
  follow_refused indices old new e customs refused raw = record { told = tt; customs = customs; refused = refused; raw = raw }

  abbrev Leaves : Bool → (old new : ModuleCustomSections (SectionEntry V O)) → Result (Vec ℕ × CodeTransform) Error → Type 0
  Leaves hands old new answer = LeavesCustoms G hands (λ r x. x ≡ transform_of r.1) (IsToldOf (config_of f) (lent parts) (asked_first (meant G old))) old new answer

  pub parts_refused : (asked : Bool) (old new : ModuleCustomSections (SectionEntry V O)) (e : Error)
      → RefusesToWrite {X = Vec ℕ × CodeTransform} (OneMayRefuseThen G old new) (config_of f) (module_with G f parts new) (Err (refusal_of e))
      → Leaves f.preserve_code_transform old new (Err e) → (AreRaw (sections old) → new ≡ old) → WritesParts G f parts asked old new (Err e)
  parts_refused asked old new e refused customs raw = record { emitted = tt; refused = refused; customs = customs; transform = λ on. tt; raw = raw }

  -- ---- where the sections aren't to follow the code

  then_refused : (customs : ModuleCustomSections (SectionEntry V O)) (answer : Result (Vec ℕ × CodeTransform) Error) → RefusesToWrite (OneAskedMayRefuse (meant G customs)) (config_of f) (module_with G f parts customs) (told answer)
      → RefusesToWrite (OneMayRefuseThen G customs customs) (config_of f) (module_with G f parts customs) (told answer)
  then_refused customs (Ok r) h = h
  then_refused customs (Err e) h =
      refused_then (OneAskedMayRefuse (meant G customs)) (OneMayRefuseThen G customs customs) (λ a. inl a) (config_of f) (module_with G f parts customs) (Vec ℕ × CodeTransform) (Vec ℕ × CodeTransform) (refusal_of e) h

  pub parts_unfollowed : (indices : Lookup) (asked : Bool) (customs : ModuleCustomSections (SectionEntry V O)) (answer : Result (Vec ℕ × CodeTransform) Error) → f.preserve_code_transform ≡ false
      → WritesSections G f parts indices asked customs answer → WritesParts G f parts asked customs customs answer
  parts_unfollowed indices asked customs answer off w = record {
    emitted = w.emitted;
    refused = then_refused customs answer w.refused;
    customs = subst (λ (b : Bool). Leaves b customs customs answer) (sym off) refl;
    transform = ⊎_elim
        (λ on. absurd (false≢true (sym off ∙ on)))
        (λ on. subst (λ (b : Bool). IfOk answer (λ r. IsSayable (module_with G f parts customs) → IsTransformOf (config_of f) b (locations_at parts) (module_with G f parts customs) r.0.items (transform_of r.1))) (sym off) (w.transform on));
    raw = λ are. refl;
  }
