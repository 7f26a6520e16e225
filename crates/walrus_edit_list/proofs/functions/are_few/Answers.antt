use Rattle.std.proofs.Common.{arith}
use Rattle.walrus_edit_list.proofs.Counting.{declared_from}
use Rattle.walrus_edit_list.proofs.functions.are_few.Goals as goal

pub declarations-preserved : goal.declarations-preserved
declarations-preserved c =
    let from = declared_from c.args.declarations.now c.declarations.declaration-index c.declarations-test.true in
    omega (arith, from, c.declarations.invariant, c.if-declaration-left.false)
