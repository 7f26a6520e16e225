use Rattle.std.proofs.Common.{◌≡◌, length, map, take}
use Rattle.wasm_entries.specs.Record.{element_entry}
use Rattle.walrus_items.specs.Elements.{elements}
use Rattle.walrus_items.specs.Tables.{tables}
use Rattle.walrus_model.specs.Sections.{element_of}
use Rattle.walrus_reading.specs.Held.{HoldsElement}
use Rattle.walrus_reading.specs.Kept.{elements_kept}
use Rattle.walrus_reading.specs.Placed.{AddsPlaced}
use Rattle.walrus_reading.proofs.elements.add_elements.Given as goal

-- those so far are added, and kept
abbrev pub invariant-loop-entry : goal.invariant-loop-entry
invariant-loop-entry l =
    AddsPlaced HoldsElement (map (λ e. element_of (element_entry e)) (take l.entry-index l.raw)) (elements l.fn.all) (elements l.all)
    × (tables l.within ≡ elements_kept (length (elements l.fn.all)) (map (λ e. element_of (element_entry e)) (take l.entry-index l.raw)) (tables l.fn.within))
