use Rattle.std.proofs.Common.{◌≡◌, ap, ◌∙◌, rules}
use Rattle.std.specs.Prelude.{None, option_map}
use Rattle.std.proofs.lemmas.Result.{err_from_is_err_and}
use Rattle.walrus_base.specs.Id.{place}
use Rattle.walrus_base.specs.Operators.{Types}
use Rattle.walrus_module.specs.View.{contents_of}
use Rattle.walrus_edit_list.specs.Ids.{HasTooMany, ids_of}
use Rattle.walrus_edit_list.proofs.Importing.{too_many, type_found}
use Rattle.walrus_edit_list.proofs.imports.import_function.Goals as goal

pub returns-in_err-ids : goal.returns-in_err-ids
returns-in_err-ids g c =
    let p = err_from_is_err_and c.from_residual.result c.from_residual.ensures.1 in
    rw (p.1, p.2) (too_many (ids_of (contents_of c.args.module.now) Types c.args.ty ≡ None) (HasTooMany (contents_of c.args.module.now)) c.in_err-ids.field-0.0
    c.in_err-ids.ensures)

pub returns-in_default : goal.returns-in_default
returns-in_default g c =
    let none : c.get_type.result ≡ None = search rules in
    type_found _ _ c.in_ok-ids.ensures c.args.ty c.get_type.result c.get_type.ensures ∙ ap (option_map place) none

pub returns : goal.returns
returns g c = (
  c.in-Some.id,
  _,
  type_found _ _ c.in_ok-ids.ensures c.args.ty c.get_type.result c.get_type.ensures ∙ ap (option_map place) c.in-Some.is,
  c.in_ok-add_import_func.ensures.added,
  ap contents_of c.in_ok-add_import_func.ensures.others,
)
