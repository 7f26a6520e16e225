use Rattle.std.proofs.Common.{rules, refl}
use Rattle.std.proofs.lemmas.Result.{err_from_is_err_and}
use Rattle.walrus_base.specs.Id.{place}
use Rattle.walrus_module.specs.Replaced.{AreParameters}
use Rattle.walrus_module.proofs.ReplacedLemmas.{export_lives, export_no_room, export_refused, export_replaced}
use Rattle.walrus_module.proofs.module.Module.replace_exported_func.Goals as goal

pub returns-in_err-args : goal.returns-in_err-args
returns-in_err-args g c =
    let p = err_from_is_err_and c.from_residual-in_err-args.result c.from_residual-in_err-args.ensures.1 in
    rw (p.1, p.2) (export_no_room _ c.args.fid c.args.self.now c.args.self.now (place c.in-Some.export) c.in_ok-old.old c.in-Some.ensures c.in_ok-old.ensures _ refl (refl, refl))

pub returns-in_err-function : goal.returns-in_err-function
returns-in_err-function g c =
    let taken : AreParameters c.in_ok-args.args.items c.in_ok-old.old.now = search rules in
    let p = err_from_is_err_and c.from_residual-in_err-function.result c.from_residual-in_err-function.ensures.1 in
    rw (p.1, p.2) (export_refused _ c.args.fid c.args.self.now c.args.self.now (place c.in-Some.export) c.in_ok-old.old c.in-Some.ensures c.in_ok-old.ensures c.ty.result c.in_ok-args.args.items c.ty.ensures taken _ c.in_err-function.ensures (refl, refl))

pub redirect-requires : goal.redirect-requires
redirect-requires g c =
    export_lives (λ shown given answer left. Unit {0}) c.args.fid c.args.self.now c.args.self.now (place c.in-Some.export) c.in_ok-old.old c.in-Some.ensures c.in_ok-old.ensures

pub returns : goal.returns
returns g c =
    let taken : AreParameters c.in_ok-args.args.items c.in_ok-old.old.now = search rules in
    export_replaced _ c.args.fid c.args.self.now _ (place c.in-Some.export) c.in_ok-old.old c.in-Some.ensures c.in_ok-old.ensures c.ty.result c.in_ok-args.args.items c.ty.ensures taken c.in_ok-function.function c.in_ok-id.id c.in_ok-function.ensures c.in_ok-id.ensures.0 c.in_ok-id.ensures.1 c.redirect.ensures refl
