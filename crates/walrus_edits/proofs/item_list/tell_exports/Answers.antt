use Rattle.wasm_entries.specs.Record.{export_entry}
use Rattle.walrus_edits.specs.ItemRecords.{AnExport}
use Rattle.walrus_edits.proofs.TellSteps.{adds_same, map_twice}
use Rattle.walrus_edits.proofs.item_list.tell_exports.Goals as goal

pub returns : goal.returns
returns c = adds_same (Unit {0}) c.tell_all.result c.args.to.now.items c.tell_all.new.to.items _ _ (map_twice export_entry AnExport c.args.all.now) c.tell_all.ensures
