use Rattle.std.proofs.Common.{◌≡◌, ◌<◌, ◌≤◌, List, [], ◌++◌, Option, length, take, get_or, subst, sym, arith}
use Rattle.walrus_base.specs.Locals.{locals}
use Rattle.walrus_base.specs.declared.value.ValType.{ValType}
use Rattle.walrus_base.specs.declared.value.ValType.TheVariants.{I32}
use Rattle.walrus_bodies.specs.BodyRead.{AddsLocals}
use Rattle.walrus_bodies.proofs.AddedLemmas.{adds_nothing, take_next}
use Rattle.walrus_functions.proofs.ParameterLemmas.{adds_stay}
use Rattle.std.proofs.lemmas.List.{take_all}
use Rattle.std.proofs.lemmas.Result.{err_from_is_err_and}
use Rattle.walrus_base.specs.declared.id.Id.{Id}
use Rattle.walrus_base.specs.declared.keys.LocalKey.{LocalKey}
use Rattle.walrus_base.specs.declared.locals.Local.{Local}
use Rattle.walrus_functions.specs.ReadFunction.{StaysInFront}
use Rattle.walrus_functions.proofs.HandlerLemmas.{stays_trans}
use Rattle.walrus_functions.proofs.read.add_locals.Goals as goal
use Rattle.walrus_bodies.proofs.BodyLemmas.{adds-more as adds_one_more}

pub loop-ty-preserved : goal.loop-ty-preserved
loop-ty-preserved c =
    let types = c.args.types.now in
    let i = c.loop-ty.ty-index in
    let first : ValType = I32 in
    let below : i < length types = omega arith in
    let old = locals c.args.module_locals.now in
    let more = adds_one_more old (locals c.loop-ty.module_locals) (locals c.add.new.self) c.loop-ty.ids.items c.push.new.self.items (take i types) c.in_ok-id.id (get_or types i first) c.loop-ty.invariant c.in_ok-id.ensures.0 c.in_ok-id.ensures.1 c.in_ok-push.ensures.items in
    subst (λ (ts : List ValType). AddsLocals old (locals c.add.new.self) c.push.new.self.items ts) (take_next types i first below) more

stays_and : (old between new more : List (Option Local)) → StaysInFront old between → new ≡ between ++ more → StaysInFront old new
stays_and old between new more first next = stays_trans old between new first (more, next)

pub loop-ty-init : goal.loop-ty-init
loop-ty-init c = subst (λ (ids : List (Id LocalKey)). AddsLocals (locals c.args.module_locals.now) (locals c.args.module_locals.now) ids []) (sym c.in_ok-ids.ensures.items) (adds_nothing (locals c.args.module_locals.now))

pub returns-in_err-id-clause-added : goal.returns-in_err-id-clause-added
returns-in_err-id-clause-added c = let p = err_from_is_err_and c.from_residual-in_err-id.result c.from_residual-in_err-id.ensures.1 in rw p.1 tt

pub returns-in_err-id-clause-stays : goal.returns-in_err-id-clause-stays
returns-in_err-id-clause-stays c = subst (λ (now : List (Option Local)). StaysInFront (locals c.args.module_locals.now) now) (sym c.in_err-id.ensures) (adds_stay (locals c.args.module_locals.now) (locals c.loop-ty.module_locals) c.loop-ty.ids.items (take c.loop-ty.ty-index c.args.types.now) c.loop-ty.invariant)

pub returns-in_err-push-clause-added : goal.returns-in_err-push-clause-added
returns-in_err-push-clause-added c = let p = err_from_is_err_and c.from_residual-in_err-push.result c.from_residual-in_err-push.ensures.1 in rw p.1 tt

pub returns-in_err-push-clause-stays : goal.returns-in_err-push-clause-stays
returns-in_err-push-clause-stays c = stays_and (locals c.args.module_locals.now) (locals c.loop-ty.module_locals) (locals c.add.new.self) _ (adds_stay (locals c.args.module_locals.now) (locals c.loop-ty.module_locals) c.loop-ty.ids.items (take c.loop-ty.ty-index c.args.types.now) c.loop-ty.invariant) c.in_ok-id.ensures.1

pub returns-clause-added : goal.returns-clause-added
returns-clause-added c =
    let past : length c.args.types.now ≤ c.loop-ty.ty-index = omega arith in
    subst (λ (ts : List ValType). AddsLocals (locals c.args.module_locals.now) (locals c.loop-ty.module_locals) c.loop-ty.ids.items ts) (take_all c.loop-ty.ty-index c.args.types.now past) c.loop-ty.invariant

pub returns-clause-stays : goal.returns-clause-stays
returns-clause-stays c = adds_stay (locals c.args.module_locals.now) (locals c.loop-ty.module_locals) c.loop-ty.ids.items (take c.loop-ty.ty-index c.args.types.now) c.loop-ty.invariant
