use Rattle.std.proofs.Common.{take}
use Rattle.walrus_functions.specs.Declaring.{AreLowest, lowest_of}
use Rattle.walrus_functions.proofs.declared.lowest_locals.Given as goal

-- the lowest of the locals so far
abbrev pub invariant-loop-local : goal.invariant-loop-local
invariant-loop-local l = AreLowest (take l.local-index l.found) (lowest_of l.lowest)
