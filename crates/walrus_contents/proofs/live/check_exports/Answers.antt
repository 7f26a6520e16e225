use Rattle.std.proofs.Common.{List, map, ap, ◌∙◌, subst}
use Rattle.std.proofs.lemmas.Result.{err_from_is_err_and}
use Rattle.walrus_base.specs.Operators.{Item}
use Rattle.walrus_items.specs.Exports.{ExportValue, exports_left}
use Rattle.walrus_items.specs.Kinds.{exported}
use Rattle.walrus_model.specs.Dead.{HasDead}
use Rattle.walrus_model.specs.Live.{IsLive}
use Rattle.walrus_contents.specs.Named.{export_names}
use Rattle.walrus_contents.specs.View.{lent, parts_view}
use Rattle.walrus_contents.proofs.LiveLemmas.{decide_all, decide_goes, decide_none, decide_stops, exports_dead}
use Rattle.walrus_contents.proofs.NamedLemmas.{refusal_map}
use Rattle.walrus_contents.proofs.live.check_exports.Goals as goal

pub loop-export-init : goal.loop-export-init
loop-export-init c =
    let p = c.args.parts in (
      tt,
      tt,
      decide_all (parts_view p) _ (export_names p.exports.now)
          (ap (λ (es : List ExportValue). map (λ e. exported e.item) es) (ap exports_left c.into_iter-export-iterator.ensures.into_iter_gives ∙ c.iter-export-items.ensures)),
    )

pub loop-export-preserved : goal.loop-export-preserved
loop-export-preserved c =
    let p = c.args.parts in
    let v = parts_view p in (
      tt,
      tt,
      decide_goes v _ _ (export_names p.exports.now) _ (ap (λ (es : List ExportValue). map (λ e. exported e.item) es) c.in-Some.ensures.steps) c.loop-export.invariant.2
          (subst (λ (x : Item). IsLive v x) c.item_id.ensures c.in_ok-check_one.ensures),
    )

pub returns-in_err-check_one : goal.returns-in_err-check_one
returns-in_err-check_one c =
    let q = err_from_is_err_and c.from_residual.result c.from_residual.ensures.1 in
    let p = c.args.parts in
    let v = parts_view p in
    rw (q.1, q.2) (refusal_map _ (HasDead v)
    (λ dead. exports_dead (lent p) (decide_stops v _ _ (export_names p.exports.now) _ (ap (λ (es : List ExportValue). map (λ e. exported e.item) es) c.in-Some.ensures.steps) c.loop-export.invariant.2
    (subst (λ (x : Item). IsLive v x → ⊥) c.item_id.ensures dead)))
    c.in_err-check_one.field-0.0 c.in_err-check_one.ensures)

pub returns : goal.returns
returns c =
    let p = c.args.parts in
    decide_none (parts_view p) _ (export_names p.exports.now) (ap (λ (es : List ExportValue). map (λ e. exported e.item) es) c.in-None.ensures.steps.0) c.loop-export.invariant.2
