use Rattle.std.proofs.Common.{map, take}
use Rattle.wasm_entries.specs.Record.{global_entry}
use Rattle.walrus_items.specs.Globals.{globals}
use Rattle.walrus_model.specs.Sections.{global_of}
use Rattle.walrus_reading.specs.Held.{HoldsGlobal}
use Rattle.walrus_reading.specs.Placed.{AddsPlaced}
use Rattle.walrus_reading.proofs.globals.add_globals.Given as goal

abbrev pub invariant-loop-entry : goal.invariant-loop-entry
invariant-loop-entry l = AddsPlaced HoldsGlobal (map (λ e. global_of (global_entry e)) (take l.entry-index l.raw)) (globals l.fn.all) (globals l.all)
