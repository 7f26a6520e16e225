use Rattle.std.proofs.Common.{map, take}
use Rattle.walrus_code.specs.Code.{item_of}
use Rattle.walrus_contents.specs.View.{parts_view}
use Rattle.walrus.specs.Traced.{Names}
use Rattle.walrus.proofs.passes.why.enter_all.Given as goal

-- the items before are entered, and who named them is noted
abbrev pub invariant-loop-item : goal.invariant-loop-item
invariant-loop-item l = Names (parts_view l.parts) l.by (map item_of (take l.item-index l.items)) l.fn.traced l.traced
