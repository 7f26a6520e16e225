use Rattle.std.proofs.Common.{◌<◌, ◌^◌}
use Rattle.walrus_functions.proofs.marks.named_window.Given as goal

-- both ends are numbers of 64 bits
abbrev pub invariant-loop-operator : goal.invariant-loop-operator
invariant-loop-operator l = (l.range.0 < 2 ^ 64) × (l.range.1 < 2 ^ 64)
