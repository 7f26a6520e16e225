use Rattle.std.proofs.Common.{drop, map}
use Rattle.wasm_entries.specs.Record.{data_entry}
use Rattle.walrus_module.specs.View.{contents_of}
use Rattle.walrus_edit_list.specs.Data.{AddsSegment, RefusesSegment}
use Rattle.walrus_edit_list.proofs.Turns.{Leads}
use Rattle.walrus_edit_list.proofs.data.add_data.Given as goal

-- what the rest makes of what is there now, all make of what was there
abbrev pub invariant-segments : goal.invariant-segments
invariant-segments g l = Leads AddsSegment RefusesSegment (map data_entry (drop l.entry-index l.raw)) (map data_entry l.raw) (contents_of l.module) (contents_of l.fn.module)
