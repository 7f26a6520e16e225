use Rattle.std.proofs.Common.{map, take}
use Rattle.walrus_code.specs.Code.{item_of}
use Rattle.walrus_contents.specs.View.{parts_view}
use Rattle.walrus.specs.Used.{Enters}
use Rattle.walrus.proofs.passes.used.enter_all.Given as goal

-- the items before are entered
abbrev pub invariant-loop-item : goal.invariant-loop-item
invariant-loop-item l = Enters (parts_view l.parts) (map item_of (take l.item-index l.items)) l.fn.list l.list
