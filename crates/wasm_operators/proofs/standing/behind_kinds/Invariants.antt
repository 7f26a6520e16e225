use Rattle.std.proofs.Common.{◌≡◌, drop}
use Rattle.wasm_operators.specs.Table.{listed}
use Rattle.wasm_operators.specs.Standing as standing
use Rattle.wasm_operators.proofs.standing.behind_kinds.Given as goal

abbrev pub invariant-kinds : goal.invariant-kinds
invariant-kinds l = standing.behind_kinds (listed l.listed_kinds) l.args ≡ standing.behind_kinds (listed (drop l.kind-index l.listed_kinds)) l.rest
