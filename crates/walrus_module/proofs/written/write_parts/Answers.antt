use Rattle.std.proofs.Common.{◌≡◌, ℕ, ◌∙◌, Bool, true, Err, inl, inr, refl, subst, sym}
use Rattle.std.specs.Global.{Vec}
use Rattle.std.proofs.lemmas.Result.{err_from_is_err_and}
use Rattle.walrus_base.proofs.DistinctLemmas.{not_false, not_true}
use Rattle.walrus_code.specs.Indices.{index_of}
use Rattle.walrus_contents.specs.View.{lent, parts_view}
use Rattle.walrus_items.specs.Transform.{transform_of}
use Rattle.walrus_items.specs.declared.error.Error.{Error}
use Rattle.walrus_items.specs.declared.transform.CodeTransform.{CodeTransform}
use Rattle.walrus_theorem.specs.Refused.{IsSayable}
use Rattle.walrus_writing.specs.Emitted.{refusal_of, told}
use Rattle.walrus_writing.specs.Transform.{IsTransformOf, locations_at}
use Rattle.walrus_writing.proofs.RefusesAll.{plan_refused_of}
use Rattle.walrus_module.specs.Asked.{OneAskedMayRefuse, all_asked, asked_first}
use Rattle.walrus_module.specs.Flags.{choices_of, config_of, flags_of}
use Rattle.walrus_module.specs.Following.{IsToldOf, OneMayRefuseThen}
use Rattle.walrus_module.specs.View.{meant, with_sections}
use Rattle.walrus_module.proofs.OwnSections.{refused_anyway}
use Rattle.walrus_module.proofs.WellWritten.{written_with}
use Rattle.walrus_module.proofs.WrittenForms.{parts_refused, parts_unfollowed}
use Rattle.walrus_module.proofs.WrittenSections.{asks, dylinks_stay, group_asked, left_anyway, left_so, refused_then, told_so, unfollowed}
use Rattle.walrus_module.proofs.written.write_parts.Goals as goal

pub returns-in_err-prepared : goal.returns-in_err-prepared
returns-in_err-prepared g c =
    let G = λ (i : g.dyn-1.0.I). (g.dyn-1.0.entry i).1 in
    let flags = flags_of c.args.switches in
    let v = with_sections (parts_view c.args.parts) (meant G c.args.customs.now) in
    let e = c.in_err-prepared.field-0.0 in
    let p = err_from_is_err_and c.from_residual.result c.from_residual.ensures.1 in
    rw (p.1, p.2) (parts_refused G flags c.args.parts c.args.tells c.args.customs.now c.args.customs.now e
    (refused_anyway (OneMayRefuseThen G c.args.customs.now c.args.customs.now) (config_of flags) v (told {X = Vec ℕ × CodeTransform} (Err e))
    (plan_refused_of (Vec ℕ × CodeTransform) (config_of flags) c.args.parts v refl e c.in_err-prepared.ensures.refused))
    (unfollowed G flags.preserve_code_transform _ _ c.args.customs.now _) (λ are. refl))

pub returns-then-not-switches : goal.returns-then-not-switches
returns-then-not-switches g c =
    let G = λ (i : g.dyn-1.0.I). (g.dyn-1.0.entry i).1 in
    parts_unfollowed G (flags_of c.args.switches) c.args.parts (index_of c.in_ok-prepared.prepared.indices) c.args.tells c.args.customs.now c.written.result (not_true _ c.args.switches.preserve_code_transform refl c.if-not-switches.true) c.written.ensures

pub returns-in_err-transform : goal.returns-in_err-transform
returns-in_err-transform g c =
    let G = λ (i : g.dyn-1.0.I). (g.dyn-1.0.entry i).1 in
    let flags = flags_of c.args.switches in
    let old = c.args.customs.now in
    let new = c.followed.new.self in
    let e = c.in_err-transform.field-0.0 in
    let followed = c.in_err-transform.ensures in
    let p = err_from_is_err_and c.from_residual-in_err-transform.result c.from_residual-in_err-transform.ensures.1 in
    rw (p.1, p.2) (parts_refused G flags c.args.parts c.args.tells old new e
    (refused_then (OneAskedMayRefuse (meant G old)) (OneMayRefuseThen G old new) (λ a. inl a) (config_of flags) (with_sections (parts_view c.args.parts) (meant G new)) (Unit {0}) (Vec ℕ × CodeTransform) (refusal_of e) followed.refused)
    (left_so G flags.preserve_code_transform true _ _ old old new _ (sym (not_false _ flags.preserve_code_transform refl c.if-not-switches.false)) refl followed.customs) followed.raw)

pub returns-in_err-bytes : goal.returns-in_err-bytes
returns-in_err-bytes g c =
    let G = λ (i : g.dyn-1.0.I). (g.dyn-1.0.entry i).1 in
    let flags = flags_of c.args.switches in
    let old = c.args.customs.now in
    let new = c.followed.new.self in
    let e = c.in_err-bytes.field-0.0 in
    let transform = c.in_ok-transform.transform in
    let followed = c.in_ok-transform.ensures in
    let p = err_from_is_err_and c.from_residual-in_err-bytes.result c.from_residual-in_err-bytes.ensures.1 in
    rw (p.1, p.2) (parts_refused G flags c.args.parts c.args.tells old new e
    (refused_then (OneAskedMayRefuse (meant G new)) (OneMayRefuseThen G old new) (λ a. inr a) (config_of flags) (with_sections (parts_view c.args.parts) (meant G new)) (Vec ℕ × CodeTransform) (Vec ℕ × CodeTransform) (refusal_of e) c.in_err-bytes.ensures.refused)
    (left_so G flags.preserve_code_transform true _ _ old old new _ (sym (not_false _ flags.preserve_code_transform refl c.if-not-switches.false)) refl
    (left_anyway G Error (λ (t : CodeTransform) x. x ≡ transform_of t) (IsToldOf (config_of flags) (lent c.args.parts) (asked_first (meant G old))) old new transform e
    (λ x is. subst (IsToldOf (config_of flags) (lent c.args.parts) (asked_first (meant G old))) (sym is) (told_so c.args.parts (config_of flags) c.in_ok-prepared.prepared _ transform c.in_ok-prepared.ensures.prepared followed.told))
    followed.customs)) followed.raw)

pub returns : goal.returns
returns g c =
    let G = λ (i : g.dyn-1.0.I). (g.dyn-1.0.entry i).1 in
    let flags = flags_of c.args.switches in
    let config = config_of flags in
    let old = c.args.customs.now in
    let new = c.followed.new.self in
    let names = index_of c.in_ok-prepared.prepared.indices in
    let ms = meant G new in
    let v = with_sections (parts_view c.args.parts) ms in
    let bytes = c.in_ok-bytes.bytes in
    let transform = c.in_ok-transform.transform in
    let followed = c.in_ok-transform.ensures in
    let wrote = c.in_ok-bytes.ensures in
    let on = sym (not_false _ flags.preserve_code_transform refl c.if-not-switches.false) in
    record {
      emitted = wrote.emitted;
      refused = wrote.refused;
      customs = left_so G flags.preserve_code_transform true _ _ old old new _ on refl followed.customs;
      transform = λ asked. subst (λ (b : Bool). IsSayable v → IsTransformOf config b (locations_at c.args.parts) v bytes.items (transform_of transform)) on
          (λ sayable. followed.told config v (all_asked names ms) bytes.items (written_with config (choices_of config) refl) (asks c.args.parts names ms (all_asked names ms) refl wrote.texts) sayable
          (group_asked names ms ∙ dylinks_stay G Error true (λ (t : CodeTransform) x. x ≡ transform_of t) (IsToldOf config (lent c.args.parts) (asked_first (meant G old))) old new transform followed.customs) wrote.spells);
      raw = followed.raw;
    }
