use Rattle.std.proofs.Common.{option_map, refl, subst, sym, IsSome, Some, ◌≡◌}
use Rattle.std.proofs.lemmas.List.{map-set}
use Rattle.std.proofs.lemmas.Result.{err_from_is_err_and}
use Rattle.walrus_base.specs.Arena.{item_at}
use Rattle.walrus_base.specs.Id.{place}
use Rattle.walrus_code.specs.Indices.{ids_at}
use Rattle.walrus_items.specs.Functions.{function_value, functions}
use Rattle.walrus_module.specs.View.{contents_of}
use Rattle.walrus_edit_list.specs.Joined.{LeadsToItself}
use Rattle.walrus_edit_list.proofs.FunctionEdits.{fronts_so}
use Rattle.walrus_edit_list.proofs.FunctionRefusals.{front_refuses, front_uncounted}
use Rattle.walrus_edit_list.proofs.Numbered.{given_itself}
use Rattle.walrus_edit_list.proofs.front.front_function.Goals as goal

pub returns-in_err-ids : goal.returns-in_err-ids
returns-in_err-ids g c =
    let p = err_from_is_err_and c.from_residual.result c.from_residual.ensures.1 in
    let m = contents_of c.args.module.now in
    let live = subst (λ n. IsSome (item_at (functions m.funcs) n)) c.at-id.ensures (c.if-not-contains.ensures.0 refl) in
    rw (p.1, p.2) (front_uncounted c.args.features.now c.args.bytes.now m (item_at (functions m.funcs) c.args.number) live _ c.in_err-ids.ensures)

pub returns-in_err-front_kind : goal.returns-in_err-front_kind
returns-in_err-front_kind g c =
    let p = err_from_is_err_and c.from_residual-in_err-front_kind.result c.from_residual-in_err-front_kind.ensures.1 in
    let m = contents_of c.args.module.now in
    let was = function_value c.get_mut.result.now in
    let stands : item_at (functions m.funcs) c.args.number ≡ Some was = subst (λ n. item_at (functions m.funcs) n ≡ Some was) c.at-id.ensures c.get_mut.ensures.value in
    rw (p.1, p.2) (front_refuses c.args.features.now c.args.bytes.now m was (item_at (functions m.funcs) c.args.number) stands (ids_at c.in_ok-ids.ids) c.in_ok-ids.ensures _ c.in_err-front_kind.ensures)

pub returns : goal.returns
returns g c =
    fronts_so c.args.number (place c.at-id.result) c.at-id.ensures (contents_of c.args.module.now) _ c.args.features.now c.args.bytes.now (function_value c.get_mut.result.now) c.get_mut.ensures.value
    c.front_kind.new.kind (ids_at c.in_ok-ids.ids) c.in_ok-ids.ensures c.in_ok-front_kind.ensures
    (map-set (option_map function_value) c.args.module.now.funcs.arena.places.items (place c.at-id.result) _) refl

pub front_kind-requires-clause-ids : goal.front_kind-requires-clause-ids
front_kind-requires-clause-ids g c = subst LeadsToItself (sym c.in_ok-ids.ensures) (given_itself (contents_of c.args.module.now))
