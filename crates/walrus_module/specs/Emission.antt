-- What emission makes of a module, and what it answers ("Binary Format > Modules").
use Rattle.std.specs.Prelude.{ℕ, Bool, true, List, Result, IfOk, OnOk, ◌≡◌, ◌⊎◌}
use Rattle.std.specs.Global.{Vec}
use Rattle.walrus_code.specs.Transform.{Transform}
use Rattle.walrus_items.specs.Elements.{elements}
use Rattle.walrus_items.specs.Transform.{transform_of}
use Rattle.walrus_items.specs.declared.custom.CustomSection.{Ghosts}
use Rattle.walrus_items.specs.declared.error.Error.{Error}
use Rattle.walrus_items.specs.declared.transform.CodeTransform.{CodeTransform}
use Rattle.walrus_model.specs.Declared.{NothingUndeclared}
use Rattle.walrus_reading.specs.Parsed.{ItemsAtOwnIds}
use Rattle.walrus_theorem.specs.Refused.{IsSayable, PassesLimits, RefusesToWrite}
use Rattle.walrus_theorem.specs.WellMade.{IsWellMade}
use Rattle.walrus_writing.specs.Emitted.{IsEmitted, told}
use Rattle.walrus_writing.specs.Transform.{IsTransformOf}
use Rattle.walrus_module.specs.Answered.{IsWellWritten, WritesUnless}
use Rattle.walrus_module.specs.Asked.{asked_first}
use Rattle.walrus_module.specs.Customs.{sections}
use Rattle.walrus_module.specs.Flags.{config_of}
use Rattle.walrus_module.specs.Following.{AreRaw, IsToldOf, LeavesCustoms, OneMayRefuseThen}
use Rattle.walrus_module.specs.Left.{AddsDeclared, ChangesElements, LeavesBy, but_customs}
use Rattle.walrus_module.specs.Settings.{settings}
use Rattle.walrus_module.specs.View.{contents_of, locations_of, meanings, view}
use Rattle.walrus_module.specs.declared.entry.SectionEntry.{SectionEntry}
use Rattle.walrus_module.specs.declared.module.Module.{Module}

module _ {V : Type 0} {O : V → Type 0} (G : (v : V) → Ghosts (O v)) (old new : Module (SectionEntry V O)) where
  -- the transform of these bytes, where a module of indices can say the custom sections
  abbrev pub IsTrueOf : (keeps_locations : Bool) → List ℕ → Transform → Type 0
  IsTrueOf keeps bytes x = IsSayable (view G new) → IsTransformOf (config_of (settings old)) keeps (locations_of new) (view G new) bytes x

  -- `bytes_of` are the bytes in what is answered, and `Tells` which transform custom sections were handed with it
  pub record Emits {X : Type 0} (bytes_of : X → List ℕ) (Tells : X → Transform → Type 0) (answer : Result X Error) : Type 0 where
    -- custom sections aside, the module has one segment more that declares functions, or is as it was
    pub left : LeavesBy (view G old) (view G (but_customs old new)) (told answer)
    pub segments : AddsDeclared (elements old.elements) (elements new.elements)
    pub others : ChangesElements old (but_customs old new)
    pub settled : NothingUndeclared (view G old) → but_customs old new ≡ old
    -- custom sections are as they were, or each has followed one true transform
    pub customs : LeavesCustoms G (settings old).preserve_code_transform Tells (IsToldOf (config_of (settings old)) (contents_of new) (asked_first (meanings G old))) old.customs new.customs answer
    pub raw : AreRaw (sections old.customs) → new.customs ≡ old.customs
    -- on Ok: the bytes are the one spelling of what the module is written as, and nothing is undeclared
    pub emitted : IfOk answer (λ x. IsEmitted (config_of (settings old)) (view G new) (bytes_of x))
    pub declared : OnOk answer (NothingUndeclared (view G new))
    -- a refusal has its cause, and where a cause stands it is refused
    pub refused : RefusesToWrite (OneMayRefuseThen G old.customs new.customs) (config_of (settings old)) (view G new) (told answer)
    -- a well-made module is written, but for memory, size, and a section that may refuse
    pub well_made : IsWellMade (config_of (settings old)) (view G old)
        → WritesUnless (PassesLimits (config_of (settings old)) (view G new)) (OneMayRefuseThen G old.customs new.customs) (λ x. IsWellWritten (config_of (settings old)) (view G new) (bytes_of x)) (told answer)
    -- items that sat at their own ids still do
    pub own_ids : ItemsAtOwnIds (contents_of old) → ItemsAtOwnIds (contents_of new)

  -- the bytes alone; custom sections that follow the code were handed the true transform
  abbrev pub EmitsBytes : Result (Vec ℕ) Error → Type 0
  EmitsBytes = Emits (λ (bytes : Vec ℕ). bytes.items) (λ bytes x. IsTrueOf true bytes.items x)

  -- the bytes, and the transform of them, which is true where it is asked for or custom sections are to follow it
  pub record EmitsTransform (asked : Bool) (answer : Result (Vec ℕ × CodeTransform) Error) : Type 0 where
    pub emits : Emits (λ (r : Vec ℕ × CodeTransform). r.0.items) (λ r x. x ≡ transform_of r.1) answer
    pub transform : ((settings old).preserve_code_transform ≡ true) ⊎ (asked ≡ true) → IfOk answer (λ r. IsTrueOf (settings old).preserve_code_transform r.0.items (transform_of r.1))
