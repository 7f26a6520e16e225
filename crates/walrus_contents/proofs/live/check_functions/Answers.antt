use Rattle.std.proofs.Common.{ℕ, ap, ◌∙◌}
use Rattle.std.proofs.lemmas.Result.{err_from_is_err_and}
use Rattle.walrus_base.specs.Arena.{item_at}
use Rattle.walrus_base.specs.Id.{place}
use Rattle.walrus_base.specs.Operators.{Functions}
use Rattle.walrus_items.specs.Functions.{FunctionValue, functions, function_entries_left, function_value}
use Rattle.walrus_contents.specs.There.{IsWhole}
use Rattle.walrus_contents.specs.View.{function, parts_view}
use Rattle.walrus_contents.proofs.LiveLemmas.{seen_there}
use Rattle.walrus_model.proofs.Walked.{next_there, walk_begins, walk_goes, walk_ends}
use Rattle.walrus_contents.proofs.live.check_functions.Goals as goal
use Rattle.walrus_base.proofs.Standing.{was_some as was_there}

pub loop-id-init : goal.loop-id-init
loop-id-init c =
    let p = c.args.parts in
    (tt, tt, walk_begins (λ i. IsWhole (parts_view p) (Functions, i)) (functions p.funcs.now) _ (ap function_entries_left c.into_iter-id-iterator.ensures.into_iter_gives ∙ c.iter_entries-id-items.ensures))

pub check_item-requires : goal.check_item-requires
check_item-requires c =
    let p = c.args.parts in
    let slots = functions p.funcs.now in
    let e : ℕ × FunctionValue = (place c.in-Some.id, function_value c.in-Some._function.now) in
    let at = next_there (λ i. IsWhole (parts_view p) (Functions, i)) slots _ _ e c.in-Some.ensures.steps c.loop-id.invariant.2 in
    seen_there (function p.locals.now) (item_at slots e.0) e.1 at

pub loop-id-preserved : goal.loop-id-preserved
loop-id-preserved c =
    let p = c.args.parts in
    (tt, tt, walk_goes (λ i. IsWhole (parts_view p) (Functions, i)) (functions p.funcs.now) _ _ (place c.in-Some.id, function_value c.in-Some._function.now) c.in-Some.ensures.steps c.in_ok-check_item.ensures c.loop-id.invariant.2)

pub returns-in_err-check_item : goal.returns-in_err-check_item
returns-in_err-check_item c =
    let p = err_from_is_err_and c.from_residual.result c.from_residual.ensures.1 in
    rw (p.1, p.2) c.in_err-check_item.ensures

pub returns : goal.returns
returns c = λ i live.
    let p = c.args.parts in
    walk_ends (λ i. IsWhole (parts_view p) (Functions, i)) (functions p.funcs.now) _ c.in-None.ensures.steps.0 c.loop-id.invariant.2 i (was_there (function p.locals.now) (item_at (functions p.funcs.now) i) live)
