use Rattle.std.proofs.Common.{map, take}
use Rattle.wasm_entries.specs.Record.{table_entry}
use Rattle.walrus_items.specs.Tables.{tables}
use Rattle.walrus_model.specs.Sections.{table_of}
use Rattle.walrus_reading.specs.Held.{HoldsTable, none_kept}
use Rattle.walrus_reading.specs.Placed.{AddsPlaced}
use Rattle.walrus_reading.proofs.tables.add_tables.Given as goal

abbrev pub invariant-loop-entry : goal.invariant-loop-entry
invariant-loop-entry l = AddsPlaced (HoldsTable none_kept) (map (λ e. table_of (table_entry e)) (take l.entry-index l.raw)) (tables l.fn.all) (tables l.all)
