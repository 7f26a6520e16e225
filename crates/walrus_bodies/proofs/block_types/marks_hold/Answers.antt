use Rattle.walrus_bodies.specs.Blocks.{block_holds}
use Rattle.walrus_code.specs.FromRaw.{arg_of}
use Rattle.walrus_bodies.proofs.NamesShown.{argument_at, hold_more, hold_not}
use Rattle.walrus_bodies.proofs.block_types.marks_hold.Goals as goal

pub mark_holds-requires : goal.mark_holds-requires
mark_holds-requires g c = argument_at c.args.bytes.now c.args.marks.now c.marks.mark-index _ c.marks-test.true c.marks.invariant.ordered

pub returns-then-not-branch : goal.returns-then-not-branch
returns-then-not-branch g c =
    hold_not (λ arg. block_holds (g.T.FunctionTypes.function_types c.args.types.now) (arg_of arg)) c.args.bytes.now c.args.marks.now c.marks.mark-index _ c.in_ok-mark_holds.field-0 c.if-not-branch.true c.marks-test.true c.marks.invariant c.in_ok-mark_holds.ensures

pub marks-preserved : goal.marks-preserved
marks-preserved g c =
    hold_more (λ arg. block_holds (g.T.FunctionTypes.function_types c.args.types.now) (arg_of arg)) c.args.bytes.now c.args.marks.now c.marks.mark-index _ c.in_ok-mark_holds.field-0 c.if-not-branch.false c.marks-test.true c.marks.invariant c.in_ok-mark_holds.ensures
