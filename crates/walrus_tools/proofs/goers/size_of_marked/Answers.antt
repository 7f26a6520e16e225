use Rattle.std.proofs.Common.{arith}
use Rattle.walrus.specs.Base.Marks.{is_marked}
use Rattle.walrus.specs.Items.Transform.{range_of}
use Rattle.walrus_tools.proofs.GoersTurn.{sum_fits}
use Rattle.walrus_tools.proofs.goers.size_of_marked.Goals as goal

pub overflow_add-sum : goal.overflow_add-sum
overflow_add-sum c =
    let fits = sum_fits (is_marked c.args.marks.now) range_of c.args.bodies.now c.loop-body.body-index _ c.loop-body-test.true c.size_if_marked-sum.result c.size_if_marked-sum.ensures in
    omega (arith, fits, c.loop-body.invariant, c.requires)
