use Rattle.std.proofs.Common.{◌≤◌}
use Rattle.walrus_functions.proofs.marks.widened.Given as goal

-- the range has only grown
abbrev pub invariant-loop-arg : goal.invariant-loop-arg
invariant-loop-arg l = (l.first ≤ l.fn.range.0) × (l.fn.range.1 ≤ l.past)
