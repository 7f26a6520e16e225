use Rattle.std.proofs.Common.{arith}
use Rattle.walrus.specs.Items.Functions.{functions}
use Rattle.walrus_tools.specs.Weigh.{is_debug, is_dropped}
use Rattle.walrus_tools.specs.WeighSteps.{is_left}
use Rattle.walrus_tools.proofs.PartSizes.{sizes_all, sizes_more, sizes_within}
use Rattle.walrus_tools.proofs.weigh.weigh_parts.Goals as goal

pub overflow_add-bodies : goal.overflow_add-bodies
overflow_add-bodies c =
    omega (
      arith,
      sizes_within (is_dropped (is_left (functions c.args.all.now))) c.args.parts.now c.each.part-index _ c.each-test.true c.each.bodies c.body_gone-bodies.result c.each.invariant.0 c.body_gone-bodies.ensures,
      c.requires.bodies,
    )

pub overflow_add-debug : goal.overflow_add-debug
overflow_add-debug c =
    omega (
      arith,
      sizes_within is_debug c.args.parts.now c.each.part-index _ c.each-test.true c.each.debug c.debug_size-debug.result c.each.invariant.1 c.debug_size-debug.ensures,
      c.requires.debug,
    )

pub each-preserved : goal.each-preserved
each-preserved c = (
  sizes_more (is_dropped (is_left (functions c.args.all.now))) c.args.parts.now c.each.part-index _ c.each-test.true c.each.bodies c.body_gone-bodies.result c.each.invariant.0 c.body_gone-bodies.ensures,
  sizes_more is_debug c.args.parts.now c.each.part-index _ c.each-test.true c.each.debug c.debug_size-debug.result c.each.invariant.1 c.debug_size-debug.ensures,
)

pub returns-clause-bodies : goal.returns-clause-bodies
returns-clause-bodies c = sizes_all (is_dropped (is_left (functions c.args.all.now))) c.args.parts.now c.each.part-index c.each-test.false c.each.bodies c.each.invariant.0

pub returns-clause-debug : goal.returns-clause-debug
returns-clause-debug c = sizes_all is_debug c.args.parts.now c.each.part-index c.each-test.false c.each.debug c.each.invariant.1
