use Rattle.std.proofs.Common.{◌≡◌, get_or, map, rules, subst}
use Rattle.walrus_module.specs.View.{contents_of}
use Rattle.wasm_entries.specs.Record.{import_entry}
use Rattle.wasm_entries.specs.declared.record.RawImport.{RawImport}
use Rattle.walrus_edit_list.specs.Imports.{AddsImport, RefusesImport}
use Rattle.walrus_edit_list.proofs.Turns.{goes_on}
use Rattle.walrus_edit_list.proofs.imports.add_imports.Goals as goal

pub imports-preserved : goal.imports-preserved
imports-preserved g c =
    let here : c.import-item.result ≡ get_or c.args.raw.now c.imports.import-index c.import-item.result = search rules in
    goes_on AddsImport RefusesImport import_entry c.args.raw.now c.imports.import-index c.import-item.result (map import_entry c.args.raw.now)
    (contents_of c.imports.module) (contents_of c.args.module.now) (contents_of c.add_import.new.module) c.imports-test.true c.imports.invariant
    (subst (λ (x : RawImport). AddsImport (import_entry x) (contents_of c.imports.module) (contents_of c.add_import.new.module)) here c.in_ok-add_import.ensures)
