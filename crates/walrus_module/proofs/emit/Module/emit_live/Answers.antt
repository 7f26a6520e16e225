use Rattle.std.proofs.Common.{◌≡◌, ℕ, sym, ap, ◌∙◌, subst, IfOk}
use Rattle.std.specs.Prelude.{true, ◌⊎◌}
use Rattle.std.specs.Global.{Vec}
use Rattle.std.proofs.lemmas.Result.{err_from_is_err_and}
use Rattle.walrus_items.specs.Transform.{transform_of}
use Rattle.walrus_items.specs.declared.transform.CodeTransform.{CodeTransform}
use Rattle.walrus_theorem.specs.Chain.{Leaves}
use Rattle.walrus_theorem.specs.Refused.{IsSayable, RefusesToWrite}
use Rattle.walrus_theorem.proofs.SameItems.{dead_back}
use Rattle.walrus_theorem.proofs.WellStays.{leaves_well}
use Rattle.walrus_writing.specs.Emitted.{IsEmitted, told}
use Rattle.walrus_writing.specs.Transform.{IsTransformOf}
use Rattle.walrus_module.specs.Asked.{asked_first}
use Rattle.walrus_module.specs.Customs.{sections}
use Rattle.walrus_module.specs.Flags.{Flags, config_of}
use Rattle.walrus_module.specs.Following.{AreRaw, IsToldOf, OneMayRefuseThen}
use Rattle.walrus_module.specs.Left.{but_customs}
use Rattle.walrus_module.specs.Settings.{settings}
use Rattle.walrus_module.specs.View.{contents_of, held_view, locations_of, meant, view}
use Rattle.walrus_module.proofs.Declaring.{ids_left, leaves_none_dead, leaves_nothing}
use Rattle.walrus_module.proofs.Emission.{answers_made, customs_keep_well, nothing_on, on_ok_always, others_but, stays_but, written_leaves_too}
use Rattle.walrus_module.proofs.EmissionForms.{memory_refused}
use Rattle.walrus_module.proofs.OwnSections.{module_leaves, nothing_back}
use Rattle.walrus_module.proofs.WrittenSections.{left_of, left_so}
use Rattle.walrus_module.proofs.emit.Module.emit_live.Goals as goal

pub returns-in_err-declare_references : goal.returns-in_err-declare_references
returns-in_err-declare_references g c =
    let d = c.declare_references.ensures in
    let p = err_from_is_err_and c.from_residual.result c.from_residual.ensures.1 in
    rw (p.1, p.2, c.in_err-declare_references.ensures.fails) (memory_refused _ c.args.self.now c.declare_references.new.self c.args.tells d.others c.in_err-declare_references.ensures.unchanged d.segments d.settled)

pub write_parts-requires-clause-there : goal.write_parts-requires-clause-there
write_parts-requires-clause-there g c =
    leaves_none_dead (held_view c.args.self.now) (held_view c.declare_references.new.self) c.in_ok-declare_references.ensures.left c.requires

pub write_parts-requires-clause-declared : goal.write_parts-requires-clause-declared
write_parts-requires-clause-declared g c = leaves_nothing (held_view c.args.self.now) (held_view c.declare_references.new.self) c.in_ok-declare_references.ensures.left

pub returns : goal.returns
returns g c =
    let G = λ (i : g.dyn-1.0.I). (g.dyn-1.0.entry i).1 in
    let old = c.args.self.now in
    let left = c.declare_references.new.self in
    let new = c.write_parts.new.customs in
    let result = c.write_parts.result in
    let wrote = c.write_parts.ensures in
    let others = c.declare_references.ensures.others in
    let leaves = c.in_ok-declare_references.ensures.left in
    let now = record left { customs = new } in
    let config = config_of (settings old) in
    let A = OneMayRefuseThen G old.customs new in
    let same = ap (λ m. m.customs) others in
    let nothing = nothing_on (held_view left) (view G now).customs (view G now).section_roots (leaves_nothing (held_view old) (held_view left) leaves) in
    let emitted = subst (λ (f : Flags). IfOk result (λ r. IsEmitted (config_of f) (view G now) r.0.items)) (ap settings others) wrote.emitted in
    let refused = subst (λ customs. RefusesToWrite (OneMayRefuseThen G customs new) config (view G now) (told result)) same
    (subst (λ (f : Flags). RefusesToWrite (OneMayRefuseThen G left.customs new) (config_of f) (view G now) (told result)) (ap settings others) wrote.refused) in
    record {
      emits = record {
        left = written_leaves_too A config (view G old) (view G (but_customs old now)) (view G now) (told result)
            (subst (λ m. Leaves (view G old) (view G m)) (sym (stays_but old left others new)) (module_leaves G old left others leaves))
            (λ dead. leaves_none_dead (held_view old) (held_view left) leaves c.requires (dead_back (held_view left) (view G now).customs (view G now).section_roots dead)) refused;
        segments = c.declare_references.ensures.segments;
        others = others_but old left others new;
        settled = λ nothing. stays_but old left others new ∙ c.declare_references.ensures.settled (nothing_back (held_view old) (view G old).customs (view G old).section_roots nothing);
        customs = left_of G (settings old).preserve_code_transform _ _ (IsToldOf config (contents_of now) (asked_first (meant G old.customs))) old.customs new result
            (λ x is. subst (λ customs. IsToldOf config (contents_of now) (asked_first (meant G customs)) x) same
            (subst (λ (f : Flags). IsToldOf (config_of f) (contents_of now) (asked_first (meant G left.customs)) x) (ap settings others) is))
            (left_so G _ _ _ _ old.customs left.customs new result (ap (λ (f : Flags). f.preserve_code_transform) (ap settings others)) same wrote.customs);
        raw = subst (λ customs. AreRaw (sections customs) → new ≡ customs) same wrote.raw;
        emitted = emitted;
        declared = on_ok_always _ result nothing;
        refused = refused;
        well_made = λ made.
            let well = leaves_well config (view G old) (view G left) made (module_leaves G old left others leaves) in
            answers_made (λ (r : Vec ℕ × CodeTransform). r.0.items) A config (view G now) result emitted refused
            (customs_keep_well G left.switches.preserve_code_transform _ _ left.customs new result wrote.customs config (held_view left) well.0) nothing;
        own_ids = ids_left old left others c.declare_references.ensures.segments;
      };
      transform = subst (λ (f : Flags). (f.preserve_code_transform ≡ true) ⊎ (c.args.tells ≡ true) → IfOk result (λ r. IsSayable (view G now) → IsTransformOf (config_of f) f.preserve_code_transform (locations_of now) (view G now) r.0.items (transform_of r.1)))
          (ap settings others) wrote.transform;
    }
