use Rattle.std.proofs.Common.{◌≡◌, flat_map, map, take}
use Rattle.std.specs.Prelude.{string_bytes}
use Rattle.walrus.specs.Code.Code.{item_of}
use Rattle.walrus_tools.specs.Reasons.{item_line}
use Rattle.walrus_tools.proofs.lines.lines_of.Given as goal

-- the lines of the items before
abbrev pub invariant-loop-item : goal.invariant-loop-item
invariant-loop-item l = string_bytes l.text ≡ flat_map item_line (map item_of (take l.item-index l.items))
