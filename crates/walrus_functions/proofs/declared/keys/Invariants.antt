use Rattle.std.proofs.Common.{◌≡◌, ◌++◌, map, drop}
use Rattle.walrus_functions.specs.Declaring.{key_of, lowest_of}
use Rattle.walrus_functions.proofs.declared.keys.Given as goal

-- the keys so far, and those of the locals that are left
abbrev pub invariant-loop-local : goal.invariant-loop-local
invariant-loop-local l = l.keys.items ++ map (key_of (lowest_of l.lowest)) (drop l.local-index l.found) ≡ map (key_of (lowest_of l.lowest)) l.found
