use Rattle.std.proofs.Common.{map, take}
use Rattle.wasm_entries.specs.Record.{export_entry}
use Rattle.walrus_items.specs.Exports.{exports}
use Rattle.walrus_reading.specs.Placed.{AllPlaced}
use Rattle.walrus_reading.specs.Taken.{HoldsExport}
use Rattle.walrus_reading.proofs.exports.add_exports.Given as goal

abbrev pub invariant-loop-entry : goal.invariant-loop-entry
invariant-loop-entry l = AllPlaced HoldsExport 0 (map export_entry (take l.entry-index l.raw)) (exports l.all)
