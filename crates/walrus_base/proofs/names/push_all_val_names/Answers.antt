use Rattle.std.proofs.Common.{◌++◌}
use Rattle.walrus_base.specs.Types.{val_heaps}
use Rattle.walrus_base.specs.Value.{val_type}
use Rattle.walrus_base.specs.Names.{places_in}
use Rattle.walrus_base.proofs.RowNames.{row_names, row_step}
use Rattle.walrus_base.proofs.names.push_all_val_names.Goals as goal

pub loop-val-preserved : goal.loop-val-preserved
loop-val-preserved c =
    row_step val_type val_heaps c.args.vals.now c.loop-val.val-index _ (places_in c.loop-val.to) (places_in c.push_val_names.new.to) (places_in c.args.to.now ++ row_names val_type val_heaps c.args.vals.now)
    c.loop-val-test.true c.loop-val.invariant c.in_ok-push_val_names.ensures
