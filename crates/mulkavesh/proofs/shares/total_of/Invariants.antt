use Rattle.std.proofs.Common.{◌≡◌, take}
use Rattle.mulkavesh.specs.Entries.{total_of}
use Rattle.mulkavesh.proofs.shares.total_of.Given as goal

-- the bytes of the functions before
abbrev pub invariant-functions : goal.invariant-functions
invariant-functions l = l.total ≡ total_of (take l.function-index l.functions)
