use Rattle.wasm_entries.specs.Record.{group}
use Rattle.walrus_edits.specs.ItemRecords.{AGroup}
use Rattle.walrus_edits.proofs.TellSteps.{adds_same, map_twice}
use Rattle.walrus_edits.proofs.item_list.tell_groups.Goals as goal

pub returns : goal.returns
returns c = adds_same (Unit {0}) c.tell_all.result c.args.to.now.items c.tell_all.new.to.items _ _ (map_twice group AGroup c.args.all.now) c.tell_all.ensures
