use Rattle.std.proofs.Common.{◌<◌, length, arith}
use Rattle.walrus_edits.proofs.ZipSteps.{defined_all, defined_turn}
use Rattle.walrus_edits.proofs.section_records.defined_functions.Goals as goal

pub functions-preserved : goal.functions-preserved
functions-preserved c =
    defined_turn c.args.bodies.now c.args.types.now c.functions.index _ _ _ _ c.in_ok-push.ensures.items (omega (arith, c.functions-test.true, c.min-index-end.ensures)) (omega (arith, c.functions-test.true, c.min-index-end.ensures))
    c.functions.invariant

pub returns : goal.returns
returns c = defined_all c.args.bodies.now c.args.types.now c.functions.index _ c.functions.invariant (λ (l : c.functions.index < length c.args.bodies.now). omega (arith, l, c.functions-test.false, c.min-index-end.ensures))
