use Rattle.std.proofs.Common.{◌≡◌, true, map, take}
use Rattle.walrus_code.specs.Code.{item_of}
use Rattle.walrus_items.specs.Globals.{globals}
use Rattle.walrus_plan.specs.Reads.{may_name_all}
use Rattle.walrus_plan.proofs.reads.may_be_named.Given as goal

-- the items before pass
abbrev pub invariant-loop-item : goal.invariant-loop-item
invariant-loop-item l = may_name_all (globals l.parts.globals.now) l.from (map item_of (take l.item-index l.named)) ≡ true
