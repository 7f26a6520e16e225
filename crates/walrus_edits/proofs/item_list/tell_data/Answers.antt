use Rattle.wasm_entries.specs.Record.{data_entry}
use Rattle.walrus_edits.specs.ItemRecords.{ASegment}
use Rattle.walrus_edits.proofs.TellSteps.{adds_same, map_twice}
use Rattle.walrus_edits.proofs.item_list.tell_data.Goals as goal

pub returns : goal.returns
returns c = adds_same (Unit {0}) c.tell_all.result c.args.to.now.items c.tell_all.new.to.items _ _ (map_twice data_entry ASegment c.args.all.now) c.tell_all.ensures
