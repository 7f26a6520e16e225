use Rattle.std.proofs.Common.{drop, map}
use Rattle.wasm_entries.specs.Record.{element_entry}
use Rattle.walrus_module.specs.View.{contents_of}
use Rattle.walrus_edit_list.specs.Elements.{AddsElement, RefusesElement}
use Rattle.walrus_edit_list.proofs.Turns.{Leads}
use Rattle.walrus_edit_list.proofs.elements.add_elements.Given as goal

-- what the rest makes of what is there now, all make of what was there
abbrev pub invariant-segments : goal.invariant-segments
invariant-segments g l = Leads AddsElement RefusesElement (map element_entry (drop l.entry-index l.raw)) (map element_entry l.raw) (contents_of l.module) (contents_of l.fn.module)
