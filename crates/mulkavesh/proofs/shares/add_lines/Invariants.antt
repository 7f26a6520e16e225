use Rattle.std.proofs.Common.{◌≡◌, ◌++◌, flat_map, take}
use Rattle.mulkavesh.specs.Entries.{share_line}
use Rattle.mulkavesh.proofs.shares.add_lines.Given as goal

-- the lines of the functions before
abbrev pub invariant-functions : goal.invariant-functions
invariant-functions l = l.to.items ≡ l.fn.to.items ++ flat_map (share_line l.total) (take l.function-index l.functions)
