use Rattle.std.proofs.Common.{◌≡◌, ℕ, Some, sym, ap, ◌∙◌, subst, refl}
use Rattle.std.specs.Prelude.{IsSome}
use Rattle.std.proofs.lemmas.Result.{err_from_is_err_and}
use Rattle.walrus_base.specs.Arena.{item_at}
use Rattle.walrus_base.specs.ModuleTypes.{type_slots}
use Rattle.walrus_base.specs.Operators.{Types}
use Rattle.walrus_base.specs.TypeDef.{type_def, type_place}
use Rattle.walrus_base.specs.TypesLeft.{place_and_def, types_left}
use Rattle.walrus_contents.specs.There.{IsWhole}
use Rattle.walrus_contents.specs.View.{parts_view}
use Rattle.walrus_model.proofs.Walked.{walk_begins, walk_goes, walk_ends, next_there}
use Rattle.walrus_contents.proofs.live.check_types.Goals as goal

pub loop-ty-init : goal.loop-ty-init
loop-ty-init c =
    let p = c.args.parts in
    (tt, tt, walk_begins (λ i. IsWhole (parts_view p) (Types, i)) (type_slots p.types.now) _ (ap types_left c.into_iter-ty-iterator.ensures.into_iter_gives ∙ c.iter-ty-items.ensures))

pub check_item-requires : goal.check_item-requires
check_item-requires c =
    let p = c.args.parts in
    let slots = type_slots p.types.now in
    let ty = c.in-Some.ty.now in
    let at : item_at slots (type_place ty) ≡ Some (type_def ty) = next_there (λ i. IsWhole (parts_view p) (Types, i)) slots _ _ (place_and_def ty) c.in-Some.ensures.steps c.loop-ty.invariant.2 in
    subst (λ (n : ℕ). IsSome (item_at slots n)) (sym c.id.ensures) (rw at refl)

pub loop-ty-preserved : goal.loop-ty-preserved
loop-ty-preserved c =
    let p = c.args.parts in
    let Good : ℕ → Type 0 = λ i. IsWhole (parts_view p) (Types, i) in
    let ty = c.in-Some.ty.now in
    (tt, tt, walk_goes Good (type_slots p.types.now) _ _ (place_and_def ty) c.in-Some.ensures.steps (subst Good c.id.ensures c.in_ok-check_item.ensures) c.loop-ty.invariant.2)

pub returns-in_err-check_item : goal.returns-in_err-check_item
returns-in_err-check_item c =
    let p = err_from_is_err_and c.from_residual.result c.from_residual.ensures.1 in
    rw (p.1, p.2) c.in_err-check_item.ensures

pub returns : goal.returns
returns c =
    let p = c.args.parts in
    walk_ends (λ i. IsWhole (parts_view p) (Types, i)) (type_slots p.types.now) _ c.in-None.ensures.steps.0 c.loop-ty.invariant.2
