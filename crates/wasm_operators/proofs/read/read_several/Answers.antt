use Rattle.std.proofs.Common.{ap, ◌∙◌, sym}
use Rattle.std.specs.Prelude.{get_or}
use Rattle.std.proofs.lemmas.Result.{err_from_is_err_and}
use Rattle.wasm_forms.specs.Grammar.{at}
use Rattle.wasm_forms.proofs.Refused.{refused}
use Rattle.wasm_operators.specs.declared.kind.Kind.TheVariants.{Nothing}
use Rattle.wasm_operators.specs.Forms.{arg_form, args_form}
use Rattle.wasm_operators.specs.Pushing.{push_at}
use Rattle.wasm_operators.specs.Table.{listed}
use Rattle.wasm_operators.proofs.Arguments.{kinds_turn, kinds_stuck, kinds_end, kinds_full, kinds_start}
use Rattle.wasm_operators.proofs.read.read_several.Goals as goal

pub kinds-init : goal.kinds-init
kinds-init c = kinds_start (listed c.args.listed_kinds.now) c.args.bytes.now ∙ ap (λ l. push_at l (args_form (listed c.args.listed_kinds.now)) c.args.bytes.now) (sym c.new-args.ensures.items)

pub returns-then-not-is_argument : goal.returns-then-not-is_argument
returns-then-not-is_argument c =
    c.kinds.invariant ∙ kinds_end c.args.listed_kinds.now c.kinds.kind-index c.kinds.args.items c.kinds.rest.now c.kinds-test.true (sym c.if-not-is_argument.ensures)

pub returns-in_err-rest : goal.returns-in_err-rest
returns-in_err-rest c =
    let kinds = c.args.listed_kinds.now in
    let i = c.kinds.kind-index in
    let done = c.kinds.args.items in
    let rest = c.kinds.rest.now in
    let p = err_from_is_err_and c.from_residual.result c.from_residual.ensures.1 in
    rw (p.1, p.2) (refused c.in_err-rest.field-0.0 (push_at done (arg_form (get_or kinds i Nothing)) rest) (at (args_form (listed kinds)) c.args.bytes.now) c.in_err-rest.ensures
    (λ n. c.kinds.invariant ∙ kinds_stuck kinds i done rest c.kinds-test.true (sym c.if-not-is_argument.ensures) n))

pub kinds-preserved : goal.kinds-preserved
kinds-preserved c =
    c.kinds.invariant
    ∙ kinds_turn c.args.listed_kinds.now c.kinds.kind-index c.kinds.args.items c.push_arg.new.to.items c.kinds.rest.now c.in_ok-rest.rest.now c.kinds-test.true (sym c.if-not-is_argument.ensures) c.in_ok-rest.ensures

pub returns : goal.returns
returns c = c.kinds.invariant ∙ kinds_full c.args.listed_kinds.now c.kinds.kind-index c.kinds.args.items c.kinds.rest.now c.kinds-test.false
