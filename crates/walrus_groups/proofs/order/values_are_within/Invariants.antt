use Rattle.std.proofs.Common.{◌≡◌, map, drop}
use Rattle.walrus_base.specs.Value.{val_type}
use Rattle.walrus_groups.specs.Ordered.{vals_within}
use Rattle.walrus_groups.proofs.order.values_are_within.Given as goal

abbrev pub invariant-loop-value : goal.invariant-loop-value
invariant-loop-value l = vals_within l.last (map val_type l.values) ≡ vals_within l.last (map val_type (drop l.value-index l.values))
