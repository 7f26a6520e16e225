use Rattle.std.proofs.Common.{◌≤◌, length, arith, ◌∙◌, refl}
use Rattle.walrus_base.specs.Operators.{arg_locals}
use Rattle.walrus_code.specs.Code.{arg_of}
use Rattle.walrus_functions.proofs.MarkLemmas.{marks_next, marks_all}
use Rattle.walrus_functions.proofs.marks.mark_args.Goals as goal

pub loop-arg-preserved : goal.loop-arg-preserved
loop-arg-preserved c = record {
  so_far = marks_next arg_locals arg_of c.args.args.now c.loop-arg.arg-index _ c.args.first c.args.marks.now.items c.loop-arg.marks.items c.mark_arg.new.marks.items c.loop-arg-test.true c.loop-arg.invariant.so_far (c.if-not-mark_arg.ensures.marks refl);
  span = c.mark_arg.ensures.span ∙ c.loop-arg.invariant.span;
}

pub returns-clause-marks : goal.returns-clause-marks
returns-clause-marks c _ =
    let past : length c.args.args.now ≤ c.loop-arg.arg-index = omega arith in
    marks_all arg_locals arg_of c.args.args.now c.loop-arg.arg-index c.args.first c.args.marks.now.items c.loop-arg.marks.items past c.loop-arg.invariant.so_far
