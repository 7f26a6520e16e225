use Rattle.std.proofs.Common.{◌≡◌, ◌++◌, length}
use Rattle.mulkavesh.specs.Notes.{spaced}
use Rattle.mulkavesh.proofs.numbers.add_spaced.Given as goal

-- the digits that are left
abbrev pub decreases-digits : goal.decreases-digits
decreases-digits l = length l.left

-- behind what stands there the digits that are left would make what all of them make
abbrev pub invariant-digits : goal.invariant-digits
invariant-digits l = l.to.items ++ spaced l.left ≡ l.fn.to.items ++ spaced l.digits
