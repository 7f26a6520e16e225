use Rattle.std.proofs.lemmas.Result.{err_from_is_err_and}
use Rattle.wasm_forms.specs.Grammar.{at}
use Rattle.wasm_forms.proofs.Refused.{refused}
use Rattle.wasm_operators.specs.Forms.{args_form, operator_of}
use Rattle.wasm_operators.specs.Operators.{args_of}
use Rattle.wasm_operators.specs.Table.{listed}
use Rattle.wasm_operators.proofs.Arguments.{no_operator, operator_read, operator_refused}
use Rattle.wasm_operators.proofs.read.read_operator_of.Goals as goal

pub returns-in_default : goal.returns-in_default
returns-in_default c = no_operator c.args.op c.args.bytes.now c.in_default.ensures

pub returns-in_err-args : goal.returns-in_err-args
returns-in_err-args c =
    let kinds = listed c.in-Some.listed_kinds in
    let p = err_from_is_err_and c.from_residual.result c.from_residual.ensures.1 in
    rw (p.1, p.2) (refused c.in_err-args.field-0.0 (at (args_form kinds) c.args.bytes.now) (at (operator_of c.args.op) c.args.bytes.now) c.in_err-args.ensures
    (λ n. operator_refused c.args.op kinds c.args.bytes.now c.in-Some.ensures n))

pub returns : goal.returns
returns c = operator_read c.args.op (listed c.in-Some.listed_kinds) c.args.bytes.now c.in_ok-args.rest.now (args_of c.in_ok-args.args) c.in-Some.ensures c.in_ok-args.ensures
