use Rattle.std.proofs.Common.{◌≡◌, ◌-◌}
use Rattle.wasm_operators.specs.Standing as standing
use Rattle.wasm_operators.proofs.standing.behind_entries.Given as goal

abbrev pub invariant-entries : goal.invariant-entries
invariant-entries g l = standing.behind_entries g.E.Listed.behind l.count l.args ≡ standing.behind_entries g.E.Listed.behind (l.count - l._taken) l.rest
