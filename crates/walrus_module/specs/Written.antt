-- What parts of a module and its custom sections are written as, and what custom sections are told of the code ("Binary Format > Modules").
use Rattle.std.specs.Prelude.{ℕ, Bool, true, false, All, IfErr, IfOk, Result, Err, ◌≡◌, ◌⊎◌}
use Rattle.std.specs.Global.{Vec}
use Rattle.std.specs.Str.{IsUtf8}
use Rattle.walrus_code.specs.Names.{Lookup}
use Rattle.walrus_contents.specs.View.{lent, parts_view}
use Rattle.walrus_contents.specs.declared.parts.Parts.{Parts}
use Rattle.walrus_items.specs.Transform.{transform_of}
use Rattle.walrus_items.specs.declared.custom.CustomSection.{Ghosts}
use Rattle.walrus_items.specs.declared.error.Error.{Error}
use Rattle.walrus_items.specs.declared.transform.CodeTransform.{CodeTransform}
use Rattle.walrus_model.specs.Abstract.{Abstract}
use Rattle.walrus_theorem.specs.Refused.{IsSayable, RefusesToWrite}
use Rattle.walrus_writing.specs.Customs.{task}
use Rattle.walrus_writing.specs.Emitted.{IsEmitted, refusal_of, told}
use Rattle.walrus_writing.specs.Records.{Spells}
use Rattle.walrus_writing.specs.Transform.{IsTransformOf, TellsTransform, locations_at}
use Rattle.walrus_module.specs.Asked.{OneAskedMayRefuse, all_asked, asked_first}
use Rattle.walrus_module.specs.Customs.{sections}
use Rattle.walrus_module.specs.Flags.{Flags, choices_of, config_of}
use Rattle.walrus_module.specs.Following.{AreRaw, IsToldOf, LeavesCustoms, OneMayRefuseThen}
use Rattle.walrus_module.specs.View.{meant, with_sections}
use Rattle.walrus_module.specs.declared.customs.ModuleCustomSections.{ModuleCustomSections}
use Rattle.walrus_module.specs.declared.entry.SectionEntry.{SectionEntry}

module _ {V : Type 0} {O : V → Type 0} (G : (v : V) → Ghosts (O v)) (f : Flags) (parts : Parts) where
  -- the module of these parts with these custom sections
  abbrev pub module_with : ModuleCustomSections (SectionEntry V O) → Abstract
  module_with customs = with_sections (parts_view parts) (meant G customs)

  -- the bytes of these parts with these sections, each asked for its data under these indices, and where that is asked for their transform
  module _ (indices : Lookup) (asked : Bool) (customs : ModuleCustomSections (SectionEntry V O)) where
    pub record WritesSections (answer : Result (Vec ℕ × CodeTransform) Error) : Type 0 where
      -- the bytes are the one spelling of what the module is written as
      pub emitted : IfOk answer (λ r. IsEmitted (config_of f) (module_with customs) r.0.items)
      -- a refusal has its cause, and where a cause stands it is refused
      pub refused : RefusesToWrite (OneAskedMayRefuse (meant G customs)) (config_of f) (module_with customs) (told answer)
      -- they are spelled under these indices, with what the sections answered
      pub spells : IfOk answer (λ r. Spells parts (task (choices_of (config_of f)) indices (all_asked indices (meant G customs))) r.0.items)
      -- the names of the sections are UTF-8
      pub texts : IfOk answer (λ _. All (λ c. IsUtf8 c.name) (all_asked indices (meant G customs)))
      -- where it is asked for, and a module of indices can say the sections, the transform is that of the bytes, without locations
      pub transform : asked ≡ true
          → IfOk answer (λ r. IsSayable (module_with customs) → IsTransformOf (config_of f) false (locations_at parts) (module_with customs) r.0.items (transform_of r.1))

  -- where the code comes to stand, with the locations of operators; and the sections have followed it
  module _ (indices : Lookup) (old new : ModuleCustomSections (SectionEntry V O)) where
    pub record FollowsCode (answer : Result CodeTransform Error) : Type 0 where
      -- on Ok: the transform of whatever bytes are written under these indices with the same sections of dynamic linking
      pub told : IfOk answer (TellsTransform parts (choices_of (config_of f)) indices (asked_first (meant G old)) true)
      -- each custom section has followed it
      pub customs : LeavesCustoms G true (λ t x. x ≡ transform_of t) (IsToldOf (config_of f) (lent parts) (asked_first (meant G old))) old new answer
      -- a refusal has its cause
      pub refused : IfErr answer (λ e. RefusesToWrite {X = Unit {0}} (OneAskedMayRefuse (meant G old)) (config_of f) (module_with new) (Err (refusal_of e)))
      pub raw : AreRaw (sections old) → new ≡ old

  -- the bytes, and the transform of them where it is asked for or the sections are to follow it
  module _ (asked : Bool) (old new : ModuleCustomSections (SectionEntry V O)) where
    pub record WritesParts (answer : Result (Vec ℕ × CodeTransform) Error) : Type 0 where
      -- the bytes are the one spelling of what the module is written as
      pub emitted : IfOk answer (λ r. IsEmitted (config_of f) (module_with new) r.0.items)
      -- a refusal has its cause, and where a cause stands it is refused
      pub refused : RefusesToWrite (OneMayRefuseThen G old new) (config_of f) (module_with new) (told answer)
      -- custom sections are as they were, or each has followed one true transform
      pub customs : LeavesCustoms G f.preserve_code_transform (λ r x. x ≡ transform_of r.1) (IsToldOf (config_of f) (lent parts) (asked_first (meant G old))) old new answer
      -- where it is asked for or kept, and a module of indices can say the sections, the transform is that of the bytes
      pub transform : (f.preserve_code_transform ≡ true) ⊎ (asked ≡ true)
          → IfOk answer (λ r. IsSayable (module_with new)
          → IsTransformOf (config_of f) f.preserve_code_transform (locations_at parts) (module_with new) r.0.items (transform_of r.1))
      pub raw : AreRaw (sections old) → new ≡ old
