use Rattle.std.proofs.Common.{refl}
use Rattle.walrus_edit_list.proofs.Exporting.{export_set}
use Rattle.walrus_edit_list.proofs.exports.set_export.Goals as goal

pub returns : goal.returns
returns g c =
    (c.in-Some.item, c.in-Some.ensures, export_set c.args.number _ c.in-Some.item c.args.raw.now.name.now _ _ _ c.at-id.ensures c.in_ok-name.ensures.ok c.write_export.ensures, refl)
