use Rattle.std.proofs.Common.{sym, get_or, ◌∷◌, []}
use Rattle.std.specs.Prelude.{Some}
use Rattle.std.proofs.lemmas.Result.{err_from_is_err_and}
use Rattle.wasm_forms.specs.Grammar.{at}
use Rattle.wasm_forms.proofs.Refused.{refused}
use Rattle.wasm_operators.specs.declared.kind.Kind.TheVariants.{Nothing}
use Rattle.wasm_operators.specs.Forms.{arg_form, args_form}
use Rattle.wasm_operators.specs.Table.{listed}
use Rattle.wasm_operators.proofs.Arguments.{none_found, one_found}
use Rattle.wasm_operators.proofs.read.read_args.Goals as goal

pub returns-then-not-is_argument : goal.returns-then-not-is_argument
returns-then-not-is_argument c = none_found c.args.listed_kinds c.args.bytes.now (sym c.if-not-is_argument.ensures)

pub returns-in_err-arg : goal.returns-in_err-arg
returns-in_err-arg c =
    let kinds = c.args.listed_kinds in
    let p = err_from_is_err_and c.from_residual.result c.from_residual.ensures.1 in
    rw (p.1, p.2) (refused c.in_err-arg.field-0.0 (at (arg_form (get_or kinds 0 Nothing)) c.args.bytes.now) (at (args_form (listed kinds)) c.args.bytes.now) c.in_err-arg.ensures
    (λ n. one_found kinds c.args.bytes.now _ (sym c.if-not-is_argument.ensures) (sym c.if-not-is_argument-2.ensures) n))

pub returns-then-not-is_argument-2 : goal.returns-then-not-is_argument-2
returns-then-not-is_argument-2 c =
    one_found c.args.listed_kinds c.args.bytes.now (Some (c.in_ok-arg.arg ∷ [], c.in_ok-arg.rest.now)) (sym c.if-not-is_argument.ensures) (sym c.if-not-is_argument-2.ensures) c.in_ok-arg.ensures
