use Rattle.std.proofs.Common.{◌≡◌, ℕ, ◌+◌, ◌-◌, ◌^◌, ◌++◌, List, length, map, min, ap, ◌∙◌, sym, subst, Vec, Global}
use Rattle.std.specs.Fn.{FnReturnsAt}
use Rattle.walrus_base.specs.Id.{place}
use Rattle.walrus_base.specs.declared.id.Id.{Id}
use Rattle.walrus_base.specs.declared.keys.LocalKey.{LocalKey}
use Rattle.walrus_base.specs.Locals.{locals}
use Rattle.walrus_code.specs.Code.{ops_of}
use Rattle.walrus_code.specs.Indices.{ids_at}
use Rattle.walrus_code.specs.declared.operator.Operator.{Operator}
use Rattle.walrus_bodies.specs.declared.declarations.Declaration.{Declaration}
use Rattle.walrus_bodies.specs.Body.{Context, context}
use Rattle.walrus_bodies.specs.Declarations.{declarations_of}
use Rattle.walrus_bodies.specs.Results.{locations}
use Rattle.walrus_bodies.proofs.BodyLemmas.{Found, not_declared, no_operators, all_read, begins}
use Rattle.std.proofs.lemmas.Result.{err_from_is_err_and}
use Rattle.walrus_bodies.proofs.body.read_body_over.Goals as goal

pub returns-in_err-declared-clause-read : goal.returns-in_err-declared-clause-read
returns-in_err-declared-clause-read g c =
    let d : Context = context (ids_at c.args.indices.now) (g.T.FunctionTypes.function_types c.args.types.now) c.args.features.now in
    let bytes = c.args.bytes.now in
    let rest = c.in_ok-declarations.rest.now in
    let ds = declarations_of c.as_slice.result.now in
    let found : Found bytes ds rest = subst (λ (xs : List Declaration). Found bytes (declarations_of xs) rest) (sym c.as_slice.ensures.value) c.in_ok-declarations.ensures.found in
    not_declared d (map place c.args.args.now) (locals c.args.module_locals.now) (locals c.declare.new.module_locals) (locals c.declare.new.module_locals) bytes rest ds (λ (v : Vec (Id LocalKey) Global). v.items) c.from_residual-in_err-declared.result c.in_err-declared.field-0.0 found c.from_residual-in_err-declared.ensures.1 c.in_err-declared.ensures.declared

pub returns-in_err-operators-clause-read : goal.returns-in_err-operators-clause-read
returns-in_err-operators-clause-read g c =
    let d : Context = context (ids_at c.args.indices.now) (g.T.FunctionTypes.function_types c.args.types.now) c.args.features.now in
    let bytes = c.args.bytes.now in
    let rest = c.in_ok-declarations.rest.now in
    let ds = declarations_of c.as_slice.result.now in
    let ids = c.in_ok-declared.declared.items in
    let found : Found bytes ds rest = subst (λ (xs : List Declaration). Found bytes (declarations_of xs) rest) (sym c.as_slice.ensures.value) c.in_ok-declarations.ensures.found in
    let all_are : c.as_slice-3.result.now ≡ c.args.args.now ++ ids = c.as_slice-3.ensures.value ∙ c.in_ok-all.ensures ∙ ap (λ (xs : List (Id LocalKey)). c.args.args.now ++ xs) c.as_slice-2.ensures.value in
    no_operators d c.args.args.now c.as_slice-3.result.now ids (locals c.args.module_locals.now) (locals c.declare.new.module_locals) bytes rest ds (λ (v : Vec Operator Global). ops_of v.items) c.from_residual-in_err-operators.result c.in_err-operators.field-0.0 found c.in_ok-declared.ensures.declared all_are c.from_residual-in_err-operators.ensures.1 c.in_err-operators.ensures.read

pub returns-clause-read : goal.returns-clause-read
returns-clause-read g c =
    let d : Context = context (ids_at c.args.indices.now) (g.T.FunctionTypes.function_types c.args.types.now) c.args.features.now in
    let bytes = c.args.bytes.now in
    let rest = c.in_ok-declarations.rest.now in
    let ds = declarations_of c.as_slice.result.now in
    let ids = c.in_ok-declared.declared.items in
    let found : Found bytes ds rest = subst (λ (xs : List Declaration). Found bytes (declarations_of xs) rest) (sym c.as_slice.ensures.value) c.in_ok-declarations.ensures.found in
    let all_are : c.as_slice-3.result.now ≡ c.args.args.now ++ ids = c.as_slice-3.ensures.value ∙ c.in_ok-all.ensures ∙ ap (λ (xs : List (Id LocalKey)). c.args.args.now ++ xs) c.as_slice-2.ensures.value in
    let declared = c.in_ok-declared.ensures.declared in
    record {
      types = declared.types;
      reads = all_read d c.args.args.now c.as_slice-3.result.now ids (locals c.args.module_locals.now) (locals c.declare.new.module_locals) bytes rest ds (ops_of c.in_ok-operators.operators.items) found declared all_are c.in_ok-operators.ensures.read;
      added = declared.added;
    }

pub returns-clause-located : goal.returns-clause-located
returns-clause-located g c =
    let bytes = c.args.bytes.now in
    let rest = c.in_ok-declarations.rest.now in
    let found : Found bytes (declarations_of c.in_ok-declarations.declarations.items) rest = c.in_ok-declarations.ensures.found in
    let begin_is : c.saturating_add-begin.result ≡ min (c.args.start + (length bytes - length rest)) (2 ^ 64 - 1) = c.saturating_add-begin.ensures ∙ ap (λ (n : ℕ). min (c.args.start + n) (2 ^ 64 - 1)) c.saturating_sub-offset.ensures in
    (found.0, (rest, (declarations_of c.in_ok-declarations.declarations.items, (found.1.0, found.1.1, begins (FnReturnsAt g.L.Fn c.args.locate.now) c.args.start c.saturating_add-begin.result bytes found.0 rest (locations c.in_ok-operators.operators.items) found.1.0 begin_is c.in_ok-operators.ensures.located))))

pub returns-in_err-declarations-clause-located : goal.returns-in_err-declarations-clause-located
returns-in_err-declarations-clause-located g c = let p = err_from_is_err_and c.from_residual.result c.from_residual.ensures.1 in rw p.1 tt

pub returns-in_err-declared-clause-located : goal.returns-in_err-declared-clause-located
returns-in_err-declared-clause-located g c = let p = err_from_is_err_and c.from_residual-in_err-declared.result c.from_residual-in_err-declared.ensures.1 in rw p.1 tt

pub returns-in_err-all-clause-read : goal.returns-in_err-all-clause-read
returns-in_err-all-clause-read g c = let p = err_from_is_err_and c.from_residual-in_err-all.result c.from_residual-in_err-all.ensures.1 in rw (p.1, p.2) tt

pub returns-in_err-all-clause-located : goal.returns-in_err-all-clause-located
returns-in_err-all-clause-located g c = let p = err_from_is_err_and c.from_residual-in_err-all.result c.from_residual-in_err-all.ensures.1 in rw p.1 tt

pub returns-in_err-operators-clause-located : goal.returns-in_err-operators-clause-located
returns-in_err-operators-clause-located g c = let p = err_from_is_err_and c.from_residual-in_err-operators.result c.from_residual-in_err-operators.ensures.1 in rw p.1 tt

pub returns-in_err-all-clause-stays : goal.returns-in_err-all-clause-stays
returns-in_err-all-clause-stays g c = c.declare.ensures.stays

pub returns-in_err-operators-clause-stays : goal.returns-in_err-operators-clause-stays
returns-in_err-operators-clause-stays g c = c.declare.ensures.stays

pub returns-in_err-declared-clause-stays : goal.returns-in_err-declared-clause-stays
returns-in_err-declared-clause-stays g c = c.declare.ensures.stays

pub returns-clause-stays : goal.returns-clause-stays
returns-clause-stays g c = c.declare.ensures.stays
