use Rattle.std.proofs.Common.{arith}
use Rattle.walrus_reading.specs.Shown.{local_values}
use Rattle.walrus_reading.proofs.Filled.{none_in_row, one_more_in_row}
use Rattle.walrus_reading.proofs.synthetic.fill_row.Goals as goal

pub row-init : goal.row-init
row-init c = (omega arith, none_in_row c.args.first c.args.parameters (local_values c.args.all.now))

pub row-preserved : goal.row-preserved
row-preserved c = (
  omega (arith, c.row-test.true, c.saturating_sub-count.ensures),
  one_more_in_row c.args.first c.row.local c.args.parameters (local_values c.args.all.now) (local_values c.row.all) (local_values c.fill_local.new.all) c.row.invariant.1 c.in_ok-fill_local.ensures.filled,
)
