use Rattle.std.proofs.Common.{◌≡◌, drop}
use Rattle.walrus_base.specs.Id.{place}
use Rattle.walrus_base.specs.Types.{val_heaps}
use Rattle.walrus_base.specs.PlaceList.{has}
use Rattle.walrus_base.specs.Value.{val_type}
use Rattle.walrus_base.proofs.RowNames.{row_names}
use Rattle.walrus_base.proofs.names.any_names.Given as goal

-- those that were seen don't name it
abbrev pub invariant-loop-val : goal.invariant-loop-val
invariant-loop-val l = has (row_names val_type val_heaps (drop l.val-index l.vals)) (place l.id) ≡ has (row_names val_type val_heaps l.vals) (place l.id)
