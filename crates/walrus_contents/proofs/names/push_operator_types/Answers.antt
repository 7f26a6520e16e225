use Rattle.std.proofs.Common.{List, flat_map, subst}
use Rattle.std.proofs.lemmas.Result.{err_from_is_err_and}
use Rattle.walrus_code.specs.Code.{arg_of, op_of}
use Rattle.walrus_base.specs.Operators.{Arg, arg_locals, op_locals}
use Rattle.walrus_contents.specs.Named.{OneIsMissing, PutsTypes}
use Rattle.walrus_contents.proofs.LocalTypes.{missing_among, types_all, types_more, types_none}
use Rattle.walrus_contents.proofs.NamedLemmas.{refusal_map}
use Rattle.walrus_contents.proofs.names.push_operator_types.Goals as goal

pub loop-arg-init : goal.loop-arg-init
loop-arg-init c = types_none c.args.locals.now c.args.to.now

pub returns-in_err-push_arg_types : goal.returns-in_err-push_arg_types
returns-in_err-push_arg_types c =
    let p = err_from_is_err_and c.from_residual.result c.from_residual.ensures.1 in
    let all = c.args.locals.now in
    rw (p.1, p.2) (refusal_map _ (OneIsMissing all (op_locals (op_of c.args.operator.now)))
    (λ one. subst (λ (args : List Arg). OneIsMissing all (flat_map arg_locals args)) c.as_slice-args.ensures
    (missing_among all arg_of arg_locals c.as_slice-args.result.now c.loop-arg.arg-index _ c.loop-arg-test.true one))
    c.in_err-push_arg_types.field-0.0 c.in_err-push_arg_types.ensures)

pub loop-arg-preserved : goal.loop-arg-preserved
loop-arg-preserved c =
    types_more c.args.locals.now arg_of arg_locals c.as_slice-args.result.now c.loop-arg.arg-index _ c.args.to.now c.loop-arg.to
    c.push_arg_types.new.to c.loop-arg-test.true c.loop-arg.invariant c.in_ok-push_arg_types.ensures

pub returns : goal.returns
returns c =
    let all = c.args.locals.now in
    subst (λ (args : List Arg). PutsTypes all (flat_map arg_locals args) c.args.to.now c.loop-arg.to) c.as_slice-args.ensures
    (types_all all arg_of arg_locals c.as_slice-args.result.now c.loop-arg.arg-index c.args.to.now c.loop-arg.to c.loop-arg-test.false c.loop-arg.invariant)
