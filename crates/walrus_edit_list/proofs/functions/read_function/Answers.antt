use Rattle.std.proofs.lemmas.Result.{err_from_is_err_and}
use Rattle.walrus_base.specs.Id.{place}
use Rattle.walrus_code.specs.Indices.{ids_at}
use Rattle.walrus_functions.specs.Signatures.{tag_places}
use Rattle.walrus_edit_list.proofs.RefusingBodies.{uncounted, unread}
use Rattle.walrus_edit_list.proofs.functions.read_function.Goals as goal

pub returns-in_err-count_locals : goal.returns-in_err-count_locals
returns-in_err-count_locals c =
    let p = err_from_is_err_and c.from_residual.result c.from_residual.ensures.1 in
    rw (p.1, p.2) (uncounted (ids_at c.args.ids.now) (tag_places c.args.tags.now) c.args.features.now (place c.args.ty) c.args.body.now c.args.types.now c.args.module_locals.now _ c.in_err-count_locals.ensures)

pub returns-in_err-read_body : goal.returns-in_err-read_body
returns-in_err-read_body c =
    let p = err_from_is_err_and c.from_residual-in_err-read_body.result c.from_residual-in_err-read_body.ensures.1 in
    rw (p.1, p.2) (unread (ids_at c.args.ids.now) (tag_places c.args.tags.now) c.args.features.now (place c.args.ty) c.args.body.now c.args.types.now c.args.module_locals.now c.read_body.new.types c.read_body.new.module_locals _ c.in_err-read_body.ensures.read)
