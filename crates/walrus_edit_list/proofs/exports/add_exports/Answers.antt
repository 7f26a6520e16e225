use Rattle.std.proofs.Common.{map}
use Rattle.walrus_module.specs.View.{contents_of}
use Rattle.wasm_entries.specs.Record.{export_entry}
use Rattle.walrus_edit_list.specs.Exports.{AddsExport, RefusesExport}
use Rattle.walrus_edit_list.proofs.Turns.{goes_on}
use Rattle.walrus_edit_list.proofs.exports.add_exports.Goals as goal

pub exports-preserved : goal.exports-preserved
exports-preserved g c =
    goes_on AddsExport RefusesExport export_entry c.args.raw.now c.exports.export-index _ (map export_entry c.args.raw.now)
    (contents_of c.exports.module) (contents_of c.args.module.now) (contents_of c.add_export.new.module) c.exports-test.true c.exports.invariant
    c.in_ok-add_export.ensures
