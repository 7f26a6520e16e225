use Rattle.std.proofs.Common.{◌≡◌, ap, ◌∙◌, rules}
use Rattle.std.specs.Prelude.{None, option_map}
use Rattle.std.proofs.lemmas.Result.{err_from_is_err_and}
use Rattle.walrus_base.specs.Value.{val_type}
use Rattle.walrus_code.specs.FromRaw.{val_of}
use Rattle.walrus_code.specs.Names.{named_val}
use Rattle.walrus_module.specs.View.{contents_of}
use Rattle.walrus_edit_list.specs.Ids.{HasTooMany, ids_of}
use Rattle.walrus_edit_list.proofs.Importing.{too_many, value_found}
use Rattle.walrus_edit_list.proofs.imports.import_global.Goals as goal

pub returns-in_err-ids : goal.returns-in_err-ids
returns-in_err-ids g c =
    let p = err_from_is_err_and c.from_residual.result c.from_residual.ensures.1 in
    rw (p.1, p.2) (too_many (named_val (ids_of (contents_of c.args.module.now)) (val_of c.args.ty.value) ≡ None) (HasTooMany (contents_of c.args.module.now)) c.in_err-ids.field-0.0
    c.in_err-ids.ensures)

pub returns-in_default : goal.returns-in_default
returns-in_default g c =
    let none : c.name_value.result ≡ None = search rules in
    value_found _ _ c.in_ok-ids.ensures (val_of c.args.ty.value) c.name_value.result c.name_value.ensures ∙ ap (option_map val_type) none

pub returns : goal.returns
returns g c = (
  val_type c.in-Some.value,
  _,
  value_found _ _ c.in_ok-ids.ensures (val_of c.args.ty.value) c.name_value.result c.name_value.ensures ∙ ap (option_map val_type) c.in-Some.is,
  c.in_ok-add_import_global.ensures.added,
  ap contents_of c.in_ok-add_import_global.ensures.others,
)
