use Rattle.std.proofs.Common.{◌≡◌, ◌++◌, length}
use Rattle.mulkavesh.specs.Visible.{shown}
use Rattle.mulkavesh.proofs.visible.add_shown.Given as goal

-- behind what stands there the rest of the name would make what the whole name makes
abbrev pub invariant-pieces : goal.invariant-pieces
invariant-pieces l = l.to.items ++ shown l.rest ≡ l.fn.to.items ++ shown l.name

-- the bytes that are left
abbrev pub decreases-pieces : goal.decreases-pieces
decreases-pieces l = length l.rest
