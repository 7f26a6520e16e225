use Rattle.std.proofs.Common.{sym, ◌∙◌}
use Rattle.wasm_operators.proofs.Skipped.{kinds_pass, kinds_none, kinds_done, kinds_all}
use Rattle.wasm_operators.proofs.standing.behind_kinds.Goals as goal

pub returns-then-not-is_argument : goal.returns-then-not-is_argument
returns-then-not-is_argument c = sym (c.kinds.invariant ∙ kinds_done c.args.listed_kinds.now c.kinds.kind-index c.kinds.rest.now c.kinds-test.true (sym c.if-not-is_argument.ensures))

pub returns-in_default : goal.returns-in_default
returns-in_default c = sym (c.kinds.invariant ∙ kinds_none c.args.listed_kinds.now c.kinds.kind-index c.kinds.rest.now c.kinds-test.true (sym c.if-not-is_argument.ensures) c.in_default.ensures)

pub kinds-preserved : goal.kinds-preserved
kinds-preserved c =
    c.kinds.invariant ∙ kinds_pass c.args.listed_kinds.now c.kinds.kind-index c.kinds.rest.now c.in-Some.after.now c.kinds-test.true (sym c.if-not-is_argument.ensures) c.in-Some.ensures

pub returns : goal.returns
returns c = sym (c.kinds.invariant ∙ kinds_all c.args.listed_kinds.now c.kinds.kind-index c.kinds.rest.now c.kinds-test.false)
