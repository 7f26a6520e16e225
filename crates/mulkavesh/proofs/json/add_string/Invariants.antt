use Rattle.std.proofs.Common.{◌≡◌, ◌++◌, codes, length}
use Rattle.mulkavesh.specs.Json.{escaped}
use Rattle.mulkavesh.proofs.json.add_string.Given as goal

-- the bytes that are left
abbrev pub decreases-characters : goal.decreases-characters
decreases-characters l = length l.rest

-- behind what stands there the rest of the string would make what the whole string makes
abbrev pub invariant-characters : goal.invariant-characters
invariant-characters l = l.to.items ++ escaped l.rest ≡ (l.fn.to.items ++ codes "\"") ++ escaped l.string
