use Rattle.std.proofs.Common.{map, subst}
use Rattle.std.proofs.lemmas.Result.{err_from_is_err_and}
use Rattle.wasm_entries.specs.Record.{global_entry}
use Rattle.walrus_module.specs.View.{contents_of}
use Rattle.walrus_edit_list.specs.Globals.{AddsGlobal, RefusesGlobal}
use Rattle.walrus_edit_list.proofs.Turns.{begins, ends, goes_on, refused}
use Rattle.walrus_edit_list.proofs.globals.add_globals.Goals as goal

pub globals-init : goal.globals-init
globals-init g c = begins AddsGlobal RefusesGlobal (map global_entry c.args.raw.now) (contents_of c.args.module.now)

pub globals-preserved : goal.globals-preserved
globals-preserved g c =
    let entry = c.entry-item.result in
    goes_on AddsGlobal RefusesGlobal global_entry c.args.raw.now c.globals.entry-index entry (map global_entry c.args.raw.now) (contents_of c.globals.module) (contents_of c.args.module.now) (contents_of c.add_global.new.module)
    c.globals-test.true c.globals.invariant (subst (λ x. AddsGlobal (global_entry x) (contents_of c.globals.module) (contents_of c.add_global.new.module)) c.entry-item.is c.in_ok-add_global.ensures)

pub returns-in_err-add_global : goal.returns-in_err-add_global
returns-in_err-add_global g c =
    let p = err_from_is_err_and c.from_residual.result c.from_residual.ensures.1 in
    let entry = c.entry-item.result in
    rw (p.1, p.2)
    (refused AddsGlobal RefusesGlobal global_entry c.args.raw.now c.globals.entry-index entry (map global_entry c.args.raw.now) (contents_of c.globals.module) (contents_of c.args.module.now) c.in_err-add_global.field-0.0 c.globals-test.true c.globals.invariant
    (subst (λ x. RefusesGlobal (global_entry x) (contents_of c.globals.module) c.in_err-add_global.field-0.0) c.entry-item.is c.in_err-add_global.ensures))

pub returns : goal.returns
returns g c =
    ends AddsGlobal RefusesGlobal global_entry c.args.raw.now c.globals.entry-index (map global_entry c.args.raw.now) (contents_of c.globals.module) (contents_of c.args.module.now) c.globals-test.false c.globals.invariant
