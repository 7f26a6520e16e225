use Rattle.std.proofs.Common.{refl}
use Rattle.std.proofs.lemmas.Result.{err_from_is_err_and}
use Rattle.walrus_base.specs.Id.{place}
use Rattle.walrus_module.proofs.ReplacedLemmas.{import_no_room, import_refused, import_replaced}
use Rattle.walrus_module.proofs.module.Module.make_local.Goals as goal

pub returns-in_err-args : goal.returns-in_err-args
returns-in_err-args g c =
    let p = err_from_is_err_and c.from_residual-in_err-args.result c.from_residual-in_err-args.ensures.1 in
    rw (p.1, p.2) (import_no_room _ c.args.fid c.args.self.now _ (place c.args.import) c.in_ok-ty.ty c.in_ok-ty.ensures (c.if-not-contains.ensures.0 refl) _ refl (c.in_err-args.ensures.stays, refl))

pub returns-in_err-function : goal.returns-in_err-function
returns-in_err-function g c =
    let p = err_from_is_err_and c.from_residual-in_err-function.result c.from_residual-in_err-function.ensures.1 in
    rw (p.1, p.2) (import_refused _ c.args.fid c.args.self.now _ (place c.args.import) c.in_ok-ty.ty c.in_ok-ty.ensures (c.if-not-contains.ensures.0 refl) c.parameters.result.now c.in_ok-args.args.items c.parameters.ensures c.in_ok-args.ensures.added _ c.in_err-function.ensures (c.in_ok-args.ensures.stays, refl))

pub returns : goal.returns
returns g c =
    import_replaced _ c.args.fid c.args.self.now _ (place c.args.import) c.in_ok-ty.ty c.in_ok-ty.ensures (c.if-not-contains.ensures.0 refl) c.parameters.result.now c.in_ok-args.args.items c.parameters.ensures c.in_ok-args.ensures.added c.in_ok-function.function c.in_ok-function.ensures c.give_body.ensures c.delete.ensures refl
