use Rattle.std.proofs.Common.{ℕ, ◌+◌, ◌<◌, get_or}
use Rattle.wasm_wire.proofs.rules.each.check_each_from.Given as goal

abbrev pub invariant-loop-place : goal.invariant-loop-place
invariant-loop-place g l = (k : ℕ) (d : g.row.T.Denot) → k < l.place → g.R.NumberedRule.Holds l.rule (l.first + k) (g.R.NumberedRule.view (get_or l.items k d))
