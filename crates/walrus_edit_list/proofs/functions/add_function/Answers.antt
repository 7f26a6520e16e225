use Rattle.std.proofs.Common.{refl}
use Rattle.std.proofs.lemmas.Result.{err_from_is_err_and}
use Rattle.walrus_base.specs.Id.{place}
use Rattle.walrus_code.specs.Indices.{ids_at}
use Rattle.walrus_functions.specs.Signatures.{tag_places}
use Rattle.walrus_module.specs.View.{contents_of}
use Rattle.walrus_edit_list.specs.Held.{held}
use Rattle.walrus_edit_list.proofs.FunctionEdits.{adds_so}
use Rattle.walrus_edit_list.proofs.FunctionRefusals.{added_refuses, ids_refuse}
use Rattle.walrus_edit_list.proofs.functions.add_function.Goals as goal

pub returns-in_err-ids : goal.returns-in_err-ids
returns-in_err-ids g c =
    let p = err_from_is_err_and c.from_residual.result c.from_residual.ensures.1 in
    rw (p.1, p.2) (ids_refuse c.args.features.now c.args.number c.args.body.now (contents_of c.args.module.now) _ c.in_err-ids.ensures)

pub returns-in_err-made : goal.returns-in_err-made
returns-in_err-made g c =
    let p = err_from_is_err_and c.from_residual-in_err-made.result c.from_residual-in_err-made.ensures.1 in
    rw (p.1, p.2)
    (added_refuses c.args.features.now c.args.number c.args.body.now (contents_of c.args.module.now) (ids_at c.in_ok-ids.ids) (tag_places c.args.tags.now) c.in_ok-ids.ensures c.requires.typed (place c.at-ty.result) c.at-ty.ensures _ c.in_err-made.ensures)

pub returns-in_err-add_local : goal.returns-in_err-add_local
returns-in_err-add_local g c =
    let p = err_from_is_err_and c.from_residual-in_err-add_local.result c.from_residual-in_err-add_local.ensures.1 in
    rw (p.1, p.2, c.in_err-add_local.ensures.0) tt

pub returns : goal.returns
returns g c =
    adds_so c.args.features.now c.args.number c.args.body.now (held c.args.module.now c.args.beside.now) _ (ids_at c.in_ok-ids.ids) (tag_places c.args.tags.now) c.in_ok-ids.ensures c.requires.typed
    (place c.at-ty.result) c.at-ty.ensures c.in_ok-made.made c.in_ok-made.ensures _ c.in_ok-add_local.ensures.0 c.in_ok-add_local.ensures.1 refl
