use Rattle.std.proofs.Common.{drop, map}
use Rattle.wasm_entries.specs.Record.{global_entry}
use Rattle.walrus_module.specs.View.{contents_of}
use Rattle.walrus_edit_list.specs.Globals.{AddsGlobal, RefusesGlobal}
use Rattle.walrus_edit_list.proofs.Turns.{Leads}
use Rattle.walrus_edit_list.proofs.globals.add_globals.Given as goal

-- what the rest makes of what is there now, all make of what was there
abbrev pub invariant-globals : goal.invariant-globals
invariant-globals g l = Leads AddsGlobal RefusesGlobal (map global_entry (drop l.entry-index l.raw)) (map global_entry l.raw) (contents_of l.module) (contents_of l.fn.module)
