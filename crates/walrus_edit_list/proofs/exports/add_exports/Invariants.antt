use Rattle.std.proofs.Common.{drop, map}
use Rattle.walrus_module.specs.View.{contents_of}
use Rattle.wasm_entries.specs.Record.{export_entry}
use Rattle.walrus_edit_list.specs.Exports.{AddsExport, RefusesExport}
use Rattle.walrus_edit_list.proofs.Turns.{Leads}
use Rattle.walrus_edit_list.proofs.exports.add_exports.Given as goal

-- what the rest makes of what there is now, all make of what there was
abbrev pub invariant-exports : goal.invariant-exports
invariant-exports g l =
    Leads AddsExport RefusesExport (map export_entry (drop l.export-index l.raw)) (map export_entry l.raw) (contents_of l.module) (contents_of l.initial.module)
