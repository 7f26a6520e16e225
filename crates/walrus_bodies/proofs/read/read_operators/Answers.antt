use Rattle.std.proofs.Common.{List, subst, sym}
use Rattle.std.specs.Global.{Vec}
use Rattle.std.specs.Fn.{FnReturnsAt}
use Rattle.std.specs.Prelude.{Err, Ok}
use Rattle.std.proofs.lemmas.Result.{err_from_is_err_and}
use Rattle.walrus_code.specs.Code.{ops_of}
use Rattle.walrus_code.specs.Indices.{ids_at}
use Rattle.walrus_code.specs.Results.{locals_at}
use Rattle.walrus_code.specs.declared.operator.Operator.{Operator}
use Rattle.walrus_bodies.specs.Body.{Context, Located, OperatorsRead, context}
use Rattle.walrus_bodies.specs.Results.{locations}
use Rattle.walrus_bodies.proofs.RelationLemmas.{reads_operators}
use Rattle.walrus_bodies.proofs.read.read_operators.Goals as goal

pub returns-clause-read : goal.returns-clause-read
returns-clause-read g c =
    let d : Context = context (ids_at c.args.indices.now) (g.T.FunctionTypes.function_types c.args.types.now) c.args.features.now in
    subst (λ (os : List Operator). OperatorsRead d (locals_at c.args.locals.now) c.args.bytes.now (ops_of os)) (sym c.shrink_to_fit.ensures.items)
    (reads_operators d (locals_at c.args.locals.now) (λ (operators : Vec Operator). ops_of operators.items) c.args.bytes.now (Ok c.in_ok-operators.operators) c.in_ok-operators.ensures.read)

pub returns-clause-located : goal.returns-clause-located
returns-clause-located g c =
    subst (λ (os : List Operator). Located (FnReturnsAt g.L.Fn c.args.locate.now) c.args.place c.args.bytes.now (locations os)) (sym c.shrink_to_fit.ensures.items) c.in_ok-operators.ensures.located

pub returns-in_err-operators-clause-read : goal.returns-in_err-operators-clause-read
returns-in_err-operators-clause-read g c =
    let d : Context = context (ids_at c.args.indices.now) (g.T.FunctionTypes.function_types c.args.types.now) c.args.features.now in
    let p = err_from_is_err_and c.from_residual.result c.from_residual.ensures.1 in
    rw (p.1, p.2) (reads_operators d (locals_at c.args.locals.now) (λ (operators : Vec Operator). ops_of operators.items) c.args.bytes.now (Err c.in_err-operators.field-0.0) c.in_err-operators.ensures.read)

pub returns-in_err-operators-clause-located : goal.returns-in_err-operators-clause-located
returns-in_err-operators-clause-located g c = let p = err_from_is_err_and c.from_residual.result c.from_residual.ensures.1 in rw p.1 tt
