use Rattle.std.proofs.Common.{drop, map}
use Rattle.walrus_module.specs.View.{contents_of}
use Rattle.wasm_entries.specs.Record.{import_entry}
use Rattle.walrus_edit_list.specs.Imports.{AddsImport, RefusesImport}
use Rattle.walrus_edit_list.proofs.Turns.{Leads}
use Rattle.walrus_edit_list.proofs.imports.add_imports.Given as goal

-- what the rest makes of what there is now, all make of what there was
abbrev pub invariant-imports : goal.invariant-imports
invariant-imports g l =
    Leads AddsImport RefusesImport (map import_entry (drop l.import-index l.raw)) (map import_entry l.raw) (contents_of l.module) (contents_of l.initial.module)
