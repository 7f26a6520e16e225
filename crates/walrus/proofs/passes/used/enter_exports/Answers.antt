use Rattle.std.proofs.Common.{List, [], ◌∷◌, map, ap, ◌∙◌, subst}
use Rattle.std.proofs.lemmas.Result.{err_from_is_err_and}
use Rattle.walrus_base.specs.Operators.{Item}
use Rattle.walrus_items.specs.Exports.{ExportValue, exports_left}
use Rattle.walrus_items.specs.Kinds.{exported}
use Rattle.walrus_model.specs.Live.{IsLive}
use Rattle.walrus_contents.specs.Named.{export_names}
use Rattle.walrus_contents.specs.View.{parts_view}
use Rattle.walrus.specs.Used.{Enters, NamesDead}
use Rattle.walrus.proofs.Followed.{dead_map, entering_all, entering_dead, entering_more, entering_none}
use Rattle.walrus.proofs.passes.used.enter_exports.Goals as goal

pub loop-export-init : goal.loop-export-init
loop-export-init c =
    let p = c.args.parts in (
      tt,
      tt,
      entering_all (parts_view p) _ (export_names p.exports.now) c.args.list.now c.requires
          (ap (λ (es : List ExportValue). map (λ e. exported e.item) es) (ap exports_left c.into_iter-export-iterator.ensures.into_iter_gives ∙ c.iter-export-items.ensures)),
    )

pub enter-requires : goal.enter-requires
enter-requires c = c.loop-export.invariant.2.kept

pub returns-in_err-enter : goal.returns-in_err-enter
returns-in_err-enter c =
    let q = err_from_is_err_and c.from_residual.result c.from_residual.ensures.1 in
    let p = c.args.parts in
    let v = parts_view p in
    rw (q.1, q.2) (dead_map _ (NamesDead v (export_names p.exports.now))
    (λ dead. entering_dead v _ _ (export_names p.exports.now) _ c.args.list.now c.loop-export.list (ap (λ (es : List ExportValue). map (λ e. exported e.item) es) c.in-Some.ensures.steps) c.loop-export.invariant.2
    (subst (λ (x : Item). IsLive v x → ⊥) c.item_id.ensures dead))
    c.in_err-enter.field-0.0 c.in_err-enter.ensures)

pub loop-export-preserved : goal.loop-export-preserved
loop-export-preserved c =
    let p = c.args.parts in
    let v = parts_view p in
    let list = c.loop-export.list in (
      tt,
      tt,
      entering_more v _ _ (export_names p.exports.now) _ c.args.list.now list (ap (λ (es : List ExportValue). map (λ e. exported e.item) es) c.in-Some.ensures.steps) c.loop-export.invariant.2
          c.enter.new.list (subst (λ (x : Item). Enters v (x ∷ []) list c.enter.new.list) c.item_id.ensures c.in_ok-enter.ensures),
    )

pub returns : goal.returns
returns c =
    let p = c.args.parts in
    entering_none (parts_view p) _ (export_names p.exports.now) c.args.list.now c.loop-export.list
    (ap (λ (es : List ExportValue). map (λ e. exported e.item) es) c.in-None.ensures.steps.0) c.loop-export.invariant.2
