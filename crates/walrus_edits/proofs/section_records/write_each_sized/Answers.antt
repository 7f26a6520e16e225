use Rattle.std.proofs.Common.{◌≤◌, length, sym, append-nil, arith}
use Rattle.std.proofs.lemmas.Result.{err_from_is_err_and}
use Rattle.wasm_entries.specs.Record.{expression}
use Rattle.walrus_edits.specs.ItemRecords.{SizedFits, sized}
use Rattle.walrus_edits.proofs.RowSteps.{row_adds, row_ends, row_turns}
use Rattle.walrus_edits.proofs.section_records.write_each_sized.Goals as goal

pub expressions-init : goal.expressions-init
expressions-init c = record { written = sym (append-nil c.args.to.now.items); fit = tt }

pub expressions-preserved : goal.expressions-preserved
expressions-preserved c =
    let both = row_turns (λ e. sized (expression e)) (λ e. SizedFits (expression e)) c.args.all.now c.expressions.raw-index c.raw-item.result _ _ _ c.expressions-test.true c.raw-item.is c.expressions.invariant.written c.expressions.invariant.fit c.in_ok-write_sized.ensures in
    record { written = both.0; fit = both.1 }

pub returns-in_err-write_sized : goal.returns-in_err-write_sized
returns-in_err-write_sized c =
    let p = err_from_is_err_and c.from_residual.result c.from_residual.ensures.1 in
    rw (p.1, p.2)
    (row_adds sized SizedFits expression c.args.all.now c.expressions.raw-index c.raw-item.result c.in_err-write_sized.field-0.0 c.args.to.now.items c.expressions.to.items c.write_sized.new.to.items c.expressions-test.true c.raw-item.is c.in_err-write_sized.ensures)

pub returns : goal.returns
returns c =
    let past : length c.args.all.now ≤ c.expressions.raw-index = omega arith in
    row_ends sized SizedFits expression c.args.all.now c.expressions.raw-index _ _ past c.expressions.invariant.written c.expressions.invariant.fit
