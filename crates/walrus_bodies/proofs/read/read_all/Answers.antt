use Rattle.std.proofs.Common.{◌≡◌, ℕ, ◌+◌, ◌-◌, ◌^◌, List, [], ◌∷◌, ◌++◌, length, min, ap, ◌∙◌, subst, refl, arith}
use Rattle.std.specs.Fn.{FnReturnsAt}
use Rattle.std.proofs.lemmas.Fn.{says_at}
use Rattle.std.proofs.lemmas.List.{map-append}
use Rattle.walrus_code.specs.Code.{op_of, ops_of}
use Rattle.walrus_code.specs.Indices.{ids_at}
use Rattle.walrus_code.specs.Results.{locals_at}
use Rattle.walrus_code.specs.declared.location.InstrLocId.{InstrLocId}
use Rattle.walrus_code.specs.declared.operator.Operator.{Operator}
use Rattle.walrus_base.specs.Operators.{Op}
use Rattle.walrus_bodies.specs.declared.blocks.Opened.{Opened}
use Rattle.walrus_bodies.specs.declared.blocks.Opened.TheVariants.{Plain}
use Rattle.walrus_bodies.specs.Body.{Context, context}
use Rattle.walrus_bodies.specs.OpenBlocks.{opened}
use Rattle.walrus_bodies.specs.Reader.{next_at, ops_at, ended}
use Rattle.walrus_bodies.specs.Results.{locations}
use Rattle.walrus_bodies.proofs.ReadLemmas.{step_more, step_last, step_none, step_out, refused, passed_on, same_given}
use Rattle.walrus_bodies.proofs.LocatedLemmas.{Front, front_of, shorter, grown, when_ended}
use Rattle.std.proofs.lemmas.Result.{err_from_is_err_and}
use Rattle.walrus_bodies.proofs.read.read_all.Goals as goal

pub returns-in_err-operator-clause-read : goal.returns-in_err-operator-clause-read
returns-in_err-operator-clause-read g c =
    let d : Context = context (ids_at c.args.scope.now.indices.now) (g.T.FunctionTypes.function_types c.args.scope.now.types.now) c.args.scope.now.features.now in
    let locals = locals_at c.args.scope.now.locals.now in
    let whole = ops_at d locals (length c.args.bytes.now) (Plain ∷ []) c.args.bytes.now in
    passed_on _ c.from_residual-in_err-operator.result c.in_err-operator.field-0.0 whole c.from_residual-in_err-operator.ensures.1
    (refused c.in_err-operator.field-0.0 (next_at d locals (opened c.loop-turn.blocks) c.loop-turn.rest.now) whole c.in_err-operator.ensures.read
    (step_none d locals whole (ops_of c.loop-turn.operators.items) (length c.args.bytes.now - c.loop-turn._turn) (opened c.loop-turn.blocks) c.loop-turn.rest.now c.loop-turn.invariant.so_far))

pub returns-then-is_closed-clause-read : goal.returns-then-is_closed-clause-read
returns-then-is_closed-clause-read g c =
    let d : Context = context (ids_at c.args.scope.now.indices.now) (g.T.FunctionTypes.function_types c.args.scope.now.types.now) c.args.scope.now.features.now in
    let locals = locals_at c.args.scope.now.locals.now in
    let items = c.loop-turn.operators.items in
    let x : Op × List Opened × List ℕ = (op_of c.in_ok-operator.operator, opened c.read_next.new.blocks, c.in_ok-operator.after.now) in
    let done : ops_of c.push.new.self.items ≡ ops_of items ++ op_of c.in_ok-operator.operator ∷ [] = ap ops_of c.in_ok-push.ensures.items ∙ map-append op_of items (c.in_ok-operator.operator ∷ []) in
    let last : ended (ops_of items ++ op_of c.in_ok-operator.operator ∷ []) c.in_ok-operator.after.now ≡ ops_at d locals (length c.args.bytes.now) (Plain ∷ []) c.args.bytes.now =
    step_last d locals _ (ops_of items) (length c.args.bytes.now) c.loop-turn._turn (opened c.loop-turn.blocks) c.loop-turn.rest.now x c.loop-turn.invariant.so_far c.loop-turn-test.true c.in_ok-operator.ensures.read (cc) in
    same_given _ c.with_no_rest.result (ap (λ ops. ended ops c.in_ok-operator.after.now) done ∙ last) c.with_no_rest.ensures.read

pub returns-then-is_closed-clause-located : goal.returns-then-is_closed-clause-located
returns-then-is_closed-clause-located g c =
    let d : Context = context (ids_at c.args.scope.now.indices.now) (g.T.FunctionTypes.function_types c.args.scope.now.types.now) c.args.scope.now.features.now in
    let locals = locals_at c.args.scope.now.locals.now in
    let items = c.loop-turn.operators.items in
    let x : Op × List Opened × List ℕ = (op_of c.in_ok-operator.operator, opened c.read_next.new.blocks, c.in_ok-operator.after.now) in
    let front : Front d locals (opened c.loop-turn.blocks) c.loop-turn.rest.now x = front_of d locals (opened c.loop-turn.blocks) c.loop-turn.rest.now x c.in_ok-operator.ensures.read in
    let place : ℕ = min (c.args.place + (length c.args.bytes.now - length c.loop-turn.rest.now)) (2 ^ 64 - 1) in
    let place_is : c.saturating_add.result ≡ place = c.saturating_add.ensures ∙ ap (λ n. min (c.args.place + n) (2 ^ 64 - 1)) c.saturating_sub-offset.ensures in
    let given : FnReturnsAt g.L.Fn c.args.locate.now place c.locate-loc.result = subst (λ (n : ℕ). FnReturnsAt g.L.Fn c.args.locate.now n c.locate-loc.result) place_is (says_at g.L.Fn c.locate-loc.ensures refl) in
    let stand : locations c.push.new.self.items ≡ locations items ++ c.locate-loc.result ∷ [] = ap locations c.in_ok-push.ensures.items ∙ map-append (λ (o : Operator). o.loc) items (c.in_ok-operator.operator ∷ []) ∙ ap (λ (l : InstrLocId). locations items ++ l ∷ []) c.in_ok-operator.ensures.located in
    let more = grown (FnReturnsAt g.L.Fn c.args.locate.now) d locals (opened c.loop-turn.blocks) c.args.place c.args.bytes.now c.loop-turn.rest.now x (locations items) (locations c.push.new.self.items) c.locate-loc.result c.loop-turn.invariant.within front given stand c.loop-turn.invariant.located in
    when_ended (FnReturnsAt g.L.Fn c.args.locate.now) c.args.place _ c.args.bytes.now c.in_ok-operator.after.now c.with_no_rest.result c.push.new.self c.with_no_rest.ensures.same more

pub loop-turn-preserved : goal.loop-turn-preserved
loop-turn-preserved g c =
    let d : Context = context (ids_at c.args.scope.now.indices.now) (g.T.FunctionTypes.function_types c.args.scope.now.types.now) c.args.scope.now.features.now in
    let locals = locals_at c.args.scope.now.locals.now in
    let items = c.loop-turn.operators.items in
    let x : Op × List Opened × List ℕ = (op_of c.in_ok-operator.operator, opened c.read_next.new.blocks, c.in_ok-operator.after.now) in
    let done : ops_of c.push.new.self.items ≡ ops_of items ++ op_of c.in_ok-operator.operator ∷ [] = ap ops_of c.in_ok-push.ensures.items ∙ map-append op_of items (c.in_ok-operator.operator ∷ []) in
    let front : Front d locals (opened c.loop-turn.blocks) c.loop-turn.rest.now x = front_of d locals (opened c.loop-turn.blocks) c.loop-turn.rest.now x c.in_ok-operator.ensures.read in
    let place : ℕ = min (c.args.place + (length c.args.bytes.now - length c.loop-turn.rest.now)) (2 ^ 64 - 1) in
    let place_is : c.saturating_add.result ≡ place = c.saturating_add.ensures ∙ ap (λ n. min (c.args.place + n) (2 ^ 64 - 1)) c.saturating_sub-offset.ensures in
    let given : FnReturnsAt g.L.Fn c.args.locate.now place c.locate-loc.result = subst (λ (n : ℕ). FnReturnsAt g.L.Fn c.args.locate.now n c.locate-loc.result) place_is (says_at g.L.Fn c.locate-loc.ensures refl) in
    let stand : locations c.push.new.self.items ≡ locations items ++ c.locate-loc.result ∷ [] = ap locations c.in_ok-push.ensures.items ∙ map-append (λ (o : Operator). o.loc) items (c.in_ok-operator.operator ∷ []) ∙ ap (λ (l : InstrLocId). locations items ++ l ∷ []) c.in_ok-operator.ensures.located in
    let more = grown (FnReturnsAt g.L.Fn c.args.locate.now) d locals (opened c.loop-turn.blocks) c.args.place c.args.bytes.now c.loop-turn.rest.now x (locations items) (locations c.push.new.self.items) c.locate-loc.result c.loop-turn.invariant.within front given stand c.loop-turn.invariant.located in
    let short = shorter d locals (opened c.loop-turn.blocks) c.loop-turn.rest.now x front in
    record {
      so_far = rw done (step_more d locals (ops_at d locals (length c.args.bytes.now) (Plain ∷ []) c.args.bytes.now) (ops_of items) (length c.args.bytes.now) c.loop-turn._turn (opened c.loop-turn.blocks) c.loop-turn.rest.now x c.loop-turn.invariant.so_far c.loop-turn-test.true c.in_ok-operator.ensures.read (cc));
      within = omega arith;
      located = more;
    }

pub returns-clause-read : goal.returns-clause-read
returns-clause-read g c =
    let d : Context = context (ids_at c.args.scope.now.indices.now) (g.T.FunctionTypes.function_types c.args.scope.now.types.now) c.args.scope.now.features.now in
    step_out d (locals_at c.args.scope.now.locals.now) _ (ops_of c.loop-turn.operators.items) (length c.args.bytes.now) c.loop-turn._turn (opened c.loop-turn.blocks) c.loop-turn.rest.now c.loop-turn.invariant.so_far (omega arith)

pub returns-in_err-blocks-clause-read : goal.returns-in_err-blocks-clause-read
returns-in_err-blocks-clause-read g c = let p = err_from_is_err_and c.from_residual.result c.from_residual.ensures.1 in rw (p.1, p.2) tt

pub returns-in_err-blocks-clause-located : goal.returns-in_err-blocks-clause-located
returns-in_err-blocks-clause-located g c = let p = err_from_is_err_and c.from_residual.result c.from_residual.ensures.1 in rw p.1 tt

pub returns-in_err-operators-clause-read : goal.returns-in_err-operators-clause-read
returns-in_err-operators-clause-read g c = let p = err_from_is_err_and c.from_residual-in_err-operators.result c.from_residual-in_err-operators.ensures.1 in rw (p.1, p.2) tt

pub returns-in_err-operators-clause-located : goal.returns-in_err-operators-clause-located
returns-in_err-operators-clause-located g c = let p = err_from_is_err_and c.from_residual-in_err-operators.result c.from_residual-in_err-operators.ensures.1 in rw p.1 tt

pub returns-in_err-operator-clause-located : goal.returns-in_err-operator-clause-located
returns-in_err-operator-clause-located g c = let p = err_from_is_err_and c.from_residual-in_err-operator.result c.from_residual-in_err-operator.ensures.1 in rw p.1 tt

pub returns-in_err-push-clause-read : goal.returns-in_err-push-clause-read
returns-in_err-push-clause-read g c = let p = err_from_is_err_and c.from_residual-in_err-push.result c.from_residual-in_err-push.ensures.1 in rw (p.1, p.2) tt

pub returns-in_err-push-clause-located : goal.returns-in_err-push-clause-located
returns-in_err-push-clause-located g c = let p = err_from_is_err_and c.from_residual-in_err-push.result c.from_residual-in_err-push.ensures.1 in rw p.1 tt

pub returns-clause-located : goal.returns-clause-located
returns-clause-located g c = tt
