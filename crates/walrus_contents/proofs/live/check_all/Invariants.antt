use Rattle.std.proofs.Common.{map, take}
use Rattle.walrus_code.specs.Code.{item_of}
use Rattle.walrus_contents.specs.There.{AreLive}
use Rattle.walrus_contents.specs.View.{parts_view}
use Rattle.walrus_contents.proofs.live.check_all.Given as goal

-- the items before are there
abbrev pub invariant-loop-item : goal.invariant-loop-item
invariant-loop-item l = AreLive (parts_view l.parts) (map item_of (take l.item-index l.named))
