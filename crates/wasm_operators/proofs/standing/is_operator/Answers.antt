use Rattle.std.proofs.Common.{ap, ◌∙◌}
use Rattle.wasm_operators.specs.Operators.{op_of}
use Rattle.wasm_operators.specs.Standing as standing
use Rattle.wasm_operators.specs.Table.{listed}
use Rattle.wasm_operators.proofs.Skipped.{spells_none, spells_not, spells_some}
use Rattle.wasm_operators.proofs.standing.is_operator.Goals as goal

pub returns-in_default : goal.returns-in_default
returns-in_default c = spells_none (op_of c.args.operator.now) c.in_default.ensures

pub returns-in-Some-behind_kinds : goal.returns-in-Some-behind_kinds
returns-in-Some-behind_kinds c =
    c.is_empty.ensures
    ∙ spells_some (op_of c.args.operator.now) (listed c.in-Some.listed_kinds) c.in-Some-behind_kinds.rest.now c.in-Some.ensures
    (c.in-Some-behind_kinds.ensures ∙ ap (standing.behind_kinds (listed c.in-Some.listed_kinds)) c.as_slice.ensures)

pub returns-in-None : goal.returns-in-None
returns-in-None c =
    spells_not (op_of c.args.operator.now) (listed c.in-Some.listed_kinds) c.in-Some.ensures (c.in-None.ensures ∙ ap (standing.behind_kinds (listed c.in-Some.listed_kinds)) c.as_slice.ensures)
