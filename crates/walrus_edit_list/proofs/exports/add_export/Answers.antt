use Rattle.std.proofs.Common.{refl}
use Rattle.walrus_edit_list.proofs.Exporting.{export_came}
use Rattle.walrus_edit_list.proofs.exports.add_export.Goals as goal

pub returns : goal.returns
returns g c =
    let came = c.in_ok-add.ensures in
    (c.in-Some.item, c.in-Some.ensures, export_came c.args.raw.now.name.now c.in-Some.item _ _ _ came.0 came.1, refl)
