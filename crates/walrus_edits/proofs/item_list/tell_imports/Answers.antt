use Rattle.std.proofs.Common.{◌≤◌, length, arith}
use Rattle.std.specs.Prelude.{Err, Ok}
use Rattle.std.proofs.lemmas.Result.{err_from_is_err_and}
use Rattle.wasm_entries.specs.Record.{import_entry}
use Rattle.wasm_entries.specs.declared.record.RawImport.{RawImport}
use Rattle.walrus_edits.specs.ItemValues.{with_brought}
use Rattle.walrus_edits.proofs.TellSteps.{adds_same, flat_seen, leaves, seen_through, tells_all, tells_none, turn}
use Rattle.walrus_edits.proofs.item_list.tell_imports.Goals as goal

pub imports-init : goal.imports-init
imports-init c = tells_none c.args.to.now.items

pub imports-preserved : goal.imports-preserved
imports-preserved c =
    turn (λ (i : RawImport). with_brought (import_entry i)) c.args.imports.now c.imports.import-index c.import-item.result _ _ _ c.imports-test.true c.import-item.is c.imports.invariant c.in_ok-tell_import.ensures

pub returns-in_err-tell_import : goal.returns-in_err-tell_import
returns-in_err-tell_import c =
    let p = err_from_is_err_and c.from_residual.result c.from_residual.ensures.1 in
    let e = c.in_err-tell_import.field-0.0 in
    let old = c.args.to.now.items in
    let new = c.tell_import.new.to.items in
    let is = c.args.imports.now in
    rw (p.1, p.2)
    (adds_same (Unit {0}) (Err e) old new _ _ (flat_seen with_brought import_entry is)
    (leaves (λ (i : RawImport). with_brought (import_entry i)) (Unit {0}) (Unit {0}) e is c.imports.import-index c.import-item.result old c.imports.to.items new new c.imports-test.true c.import-item.is c.imports.invariant c.in_err-tell_import.ensures))

pub returns : goal.returns
returns c =
    let past : length c.args.imports.now ≤ c.imports.import-index = omega arith in
    let old = c.args.to.now.items in
    let now = c.imports.to.items in
    adds_same (Unit {0}) (Ok tt) old now _ _ (seen_through with_brought import_entry c.args.imports.now c.imports.import-index past) (tells_all old now _ c.imports.invariant)
