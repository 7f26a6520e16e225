use Rattle.std.proofs.Common.{Some, ◌≡◌, ap, option_map, refl, subst}
use Rattle.std.proofs.lemmas.Result.{err_from_is_err_and}
use Rattle.walrus_base.specs.Arena.{item_at}
use Rattle.walrus_base.specs.Id.{place}
use Rattle.walrus_code.specs.Indices.{ids_at}
use Rattle.walrus_functions.specs.Signatures.{tag_places}
use Rattle.walrus_items.specs.FunctionKinds.{kind_type}
use Rattle.walrus_items.specs.Functions.{function_value, functions}
use Rattle.walrus_module.specs.View.{contents_of}
use Rattle.walrus_edit_list.specs.Held.{held}
use Rattle.walrus_edit_list.proofs.FunctionEdits.{sets_so}
use Rattle.walrus_edit_list.proofs.FunctionRefusals.{added_refuses, ids_refuse, slot_refuses}
use Rattle.walrus_edit_list.proofs.functions.set_function.Goals as goal

pub returns-in_err-ids : goal.returns-in_err-ids
returns-in_err-ids g c =
    let p = err_from_is_err_and c.from_residual.result c.from_residual.ensures.1 in
    let m = contents_of c.args.module.now in
    let was = function_value c.get-function.result.now in
    let stands : item_at (functions m.funcs) c.args.number ≡ Some was = subst (λ n. item_at (functions m.funcs) n ≡ Some was) c.at-id.ensures c.get-function.ensures in
    rw (p.1, p.2)
    (slot_refuses c.args.features.now (item_at (functions m.funcs) c.args.number) was c.args.body.now m _ stands (ids_refuse c.args.features.now (place (kind_type was.kind)) c.args.body.now m _ c.in_err-ids.ensures))

pub returns-in_err-made : goal.returns-in_err-made
returns-in_err-made g c =
    let p = err_from_is_err_and c.from_residual-in_err-made.result c.from_residual-in_err-made.ensures.1 in
    let m = contents_of c.args.module.now in
    let was = function_value c.get-function.result.now in
    let stands : item_at (functions m.funcs) c.args.number ≡ Some was = subst (λ n. item_at (functions m.funcs) n ≡ Some was) c.at-id.ensures c.get-function.ensures in
    rw (p.1, p.2)
    (slot_refuses c.args.features.now (item_at (functions m.funcs) c.args.number) was c.args.body.now m _ stands
    (added_refuses c.args.features.now (place (kind_type was.kind)) c.args.body.now m (ids_at c.in_ok-ids.ids) (tag_places c.args.tags.now) c.in_ok-ids.ensures c.requires.typed (place c.ty-ty.result) (ap place c.ty-ty.ensures) _ c.in_err-made.ensures))

pub returns : goal.returns
returns g c =
    let was = function_value c.get-function.result.now in
    sets_so c.args.features.now c.args.number c.args.body.now (held c.args.module.now c.args.beside.now) _ (ids_at c.in_ok-ids.ids) (tag_places c.args.tags.now) c.in_ok-ids.ensures c.requires.typed
    (place c.at-id.result) c.at-id.ensures was c.get-function.ensures c.ty-ty.result c.ty-ty.ensures c.in_ok-made.made c.in_ok-made.ensures c.give_body.ensures
    (option_map place c.import_of-import.result) c.import_of-import.ensures c.drop_import.ensures refl
