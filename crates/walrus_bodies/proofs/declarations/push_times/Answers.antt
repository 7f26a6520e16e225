use Rattle.std.proofs.Common.{◌≡◌, ℕ, List, [], ◌∷◌, ◌++◌, replicate, ap, ◌∙◌, sym, arith, add-one, append_assoc}
use Rattle.std.proofs.lemmas.List.{append-nil}
use Rattle.std.proofs.lemmas.Result.{err_from_is_err_and}
use Rattle.walrus_base.specs.declared.value.ValType.{ValType}
use Rattle.walrus_bodies.proofs.DeclarationLemmas.{replicate_more}
use Rattle.walrus_bodies.proofs.declarations.push_times.Goals as goal

pub loop-turn-init : goal.loop-turn-init
loop-turn-init c = sym (append-nil c.args.types.now.items)

pub returns-in_err-push : goal.returns-in_err-push
returns-in_err-push c = let p = err_from_is_err_and c.from_residual.result c.from_residual.ensures.1 in rw p.1 tt

pub loop-turn-preserved : goal.loop-turn-preserved
loop-turn-preserved c =
    let ty = c.args.ty in
    let first = c.args.types.now.items in
    let n = c.loop-turn._turn in
    c.in_ok-push.ensures.items
    ∙ ap (λ (ts : List ValType). ts ++ ty ∷ []) c.loop-turn.invariant
    ∙ append_assoc first (replicate n ty) (ty ∷ [])
    ∙ ap (λ (ts : List ValType). first ++ ts) (replicate_more n ty)
    ∙ ap (λ (m : ℕ). first ++ replicate m ty) (sym (add-one n))

pub returns : goal.returns
returns c =
    let same : c.loop-turn._turn ≡ c.args.count = omega arith in
    c.loop-turn.invariant ∙ ap (λ (m : ℕ). c.args.types.now.items ++ replicate m c.args.ty) same
