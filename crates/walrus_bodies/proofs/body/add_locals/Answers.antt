use Rattle.std.proofs.Common.{◌≡◌, ◌+◌, ◌<◌, ◌∷◌, ◌++◌, [], ℕ, List, length, take, get_or, ap, ◌∙◌, subst, sym, arith, add-one, Option}
use Rattle.std.proofs.Math.Seq.{take-suc}
use Rattle.walrus_base.specs.Locals.{locals}
use Rattle.walrus_base.specs.declared.locals.Local.{Local}
use Rattle.walrus_base.specs.declared.value.ValType.{ValType}
use Rattle.walrus_base.specs.declared.value.ValType.TheVariants.{I32}
use Rattle.walrus_bodies.specs.BodyRead.{AddsLocals, Grows}
use Rattle.walrus_bodies.proofs.BodyLemmas.{adds-more, grows-some, grows-one}
use Rattle.std.proofs.lemmas.Result.{err_from_is_err_and}
use Rattle.walrus_bodies.proofs.body.add_locals.Goals as goal

pub loop-ty-preserved : goal.loop-ty-preserved
loop-ty-preserved c =
    let types = c.args.types.now in
    let i = c.loop-ty.ty-index in
    let first : ValType = I32 in
    let below : i < length types = omega arith in
    let next : take i types ++ get_or types i first ∷ [] ≡ take (i + 1) types = sym (ap (λ (n : ℕ). take n types) (add-one i) ∙ take-suc types i first below) in
    let more = adds-more (locals c.args.module_locals.now) (locals c.loop-ty.module_locals) (locals c.add.new.self) c.loop-ty.ids.items c.push.new.self.items (take i types) c.in_ok-id.id (get_or types i first) c.loop-ty.invariant c.in_ok-id.ensures.0 c.in_ok-id.ensures.1 c.in_ok-push.ensures.items in
    subst (λ (ts : List ValType). AddsLocals (locals c.args.module_locals.now) (locals c.add.new.self) c.push.new.self.items ts) next more

pub returns-in_err-id-clause-stays : goal.returns-in_err-id-clause-stays
returns-in_err-id-clause-stays c =
    let so_far = take c.loop-ty.ty-index c.args.types.now in
    let same : locals c.add.new.self ≡ locals c.loop-ty.module_locals = c.in_err-id.ensures in
    subst (λ (now : List (Option Local)). Grows (locals c.args.module_locals.now) now) (sym same) (grows-some (locals c.args.module_locals.now) (locals c.loop-ty.module_locals) c.loop-ty.ids.items so_far c.loop-ty.invariant)

pub returns-in_err-push-clause-stays : goal.returns-in_err-push-clause-stays
returns-in_err-push-clause-stays c =
    let so_far = take c.loop-ty.ty-index c.args.types.now in
    grows-one (locals c.args.module_locals.now) (locals c.loop-ty.module_locals) (locals c.add.new.self) c.loop-ty.ids.items so_far _ c.loop-ty.invariant c.in_ok-id.ensures.1

pub returns-clause-stays : goal.returns-clause-stays
returns-clause-stays c =
    let so_far = take c.loop-ty.ty-index c.args.types.now in
    grows-some (locals c.args.module_locals.now) (locals c.loop-ty.module_locals) c.loop-ty.ids.items so_far c.loop-ty.invariant

pub returns-in_err-id-clause-added : goal.returns-in_err-id-clause-added
returns-in_err-id-clause-added c = let p = err_from_is_err_and c.from_residual.result c.from_residual.ensures.1 in rw p.1 tt

pub returns-in_err-push-clause-added : goal.returns-in_err-push-clause-added
returns-in_err-push-clause-added c = let p = err_from_is_err_and c.from_residual-in_err-push.result c.from_residual-in_err-push.ensures.1 in rw p.1 tt
