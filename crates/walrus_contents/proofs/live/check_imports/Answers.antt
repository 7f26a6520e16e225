use Rattle.std.proofs.Common.{ap, ◌∙◌, refl, subst}
use Rattle.std.proofs.lemmas.Result.{err_from_is_err_and}
use Rattle.walrus_base.specs.Arena.{item_at}
use Rattle.walrus_base.specs.Operators.{Item}
use Rattle.walrus_items.specs.Imports.{imports, import_entries_left}
use Rattle.walrus_model.specs.Dead.{HasDead}
use Rattle.walrus_model.specs.Live.{IsLive}
use Rattle.walrus_contents.specs.View.{parts_view}
use Rattle.walrus_contents.proofs.LiveLemmas.{BringsLive, import_goes, import_stops, import_there}
use Rattle.walrus_contents.proofs.NamedLemmas.{refusal_map}
use Rattle.walrus_model.proofs.Walked.{walk_begins, walk_ends}
use Rattle.walrus_contents.proofs.live.check_imports.Goals as goal

pub loop-import-init : goal.loop-import-init
loop-import-init c =
    let p = c.args.parts in
    (tt, tt, walk_begins (BringsLive (parts_view p) (imports p.imports.now)) (imports p.imports.now) _ (ap import_entries_left c.into_iter-import-iterator.ensures.into_iter_gives ∙ c.iter_entries-import-items.ensures))

pub loop-import-preserved : goal.loop-import-preserved
loop-import-preserved c =
    let p = c.args.parts in
    let v = parts_view p in
    (tt, tt, import_goes v (imports p.imports.now) _ _ _ c.in-Some.ensures.steps (subst (λ (x : Item). IsLive v x) c.item_of_import.ensures c.in_ok-check_one.ensures) c.loop-import.invariant.2)

pub returns-in_err-check_one : goal.returns-in_err-check_one
returns-in_err-check_one c =
    let q = err_from_is_err_and c.from_residual.result c.from_residual.ensures.1 in
    let p = c.args.parts in
    let v = parts_view p in
    rw (q.1, q.2) (refusal_map _ (HasDead v)
    (λ dead. import_stops v (imports p.imports.now) _ _ _ c.in-Some.ensures.steps (λ i. refl) (subst (λ (x : Item). IsLive v x → ⊥) c.item_of_import.ensures dead) c.loop-import.invariant.2)
    c.in_err-check_one.field-0.0 c.in_err-check_one.ensures)

pub returns : goal.returns
returns c = λ i x at.
    let p = c.args.parts in
    let v = parts_view p in
    import_there v (item_at (imports p.imports.now) i) (λ some. walk_ends (BringsLive v (imports p.imports.now)) (imports p.imports.now) _ c.in-None.ensures.steps.0 c.loop-import.invariant.2 i some) x at
