use Rattle.std.proofs.Common.{◌≡◌, length, map, take}
use Rattle.wasm_entries.specs.Record.{data_entry}
use Rattle.walrus_items.specs.Data.{data_segments}
use Rattle.walrus_items.specs.Memories.{memories}
use Rattle.walrus_model.specs.Sections.{data_of}
use Rattle.walrus_reading.specs.Held.{HoldsData}
use Rattle.walrus_reading.specs.Kept.{all_data_kept}
use Rattle.walrus_reading.specs.Placed.{AddsPlaced}
use Rattle.walrus_reading.proofs.data.add_data.Given as goal

-- those so far are added, and kept
abbrev pub invariant-loop-entry : goal.invariant-loop-entry
invariant-loop-entry l =
    AddsPlaced HoldsData (map (λ e. data_of (data_entry e)) (take l.entry-index l.raw)) (data_segments l.fn.all) (data_segments l.all)
    × (memories l.within ≡ all_data_kept (length (data_segments l.fn.all)) (map (λ e. data_of (data_entry e)) (take l.entry-index l.raw)) (memories l.fn.within))
