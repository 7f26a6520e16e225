use Rattle.std.proofs.Common.{ℕ, ◌<◌, get_or}
use Rattle.wasm_wire.proofs.rules.each.check_each.Given as goal

abbrev pub invariant-loop-item : goal.invariant-loop-item
invariant-loop-item g l = (k : ℕ) (d : g.row.T.Denot) → k < l.item-index → g.R.Rule.Holds l.rule (g.R.Rule.view (get_or l.items k d))
