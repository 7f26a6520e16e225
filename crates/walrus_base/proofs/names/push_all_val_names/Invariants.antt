use Rattle.std.proofs.Common.{◌≡◌, ◌++◌, drop}
use Rattle.walrus_base.specs.Types.{val_heaps}
use Rattle.walrus_base.specs.Names.{places_in}
use Rattle.walrus_base.specs.Value.{val_type}
use Rattle.walrus_base.proofs.RowNames.{row_names}
use Rattle.walrus_base.proofs.names.push_all_val_names.Given as goal

abbrev pub invariant-loop-val : goal.invariant-loop-val
invariant-loop-val l = places_in l.to ++ row_names val_type val_heaps (drop l.val-index l.vals) ≡ places_in l.fn.to ++ row_names val_type val_heaps l.vals
