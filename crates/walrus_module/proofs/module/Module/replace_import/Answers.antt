use Rattle.std.proofs.Common.{IsSome, subst, sym, refl}
use Rattle.std.proofs.lemmas.Result.{err_from_is_err_and}
use Rattle.walrus_base.specs.Id.{place}
use Rattle.walrus_module.proofs.ReplacedLemmas.{brings_function, by_brought, not_brought}
use Rattle.walrus_module.proofs.module.Module.replace_import.Goals as goal

pub returns-in_err-fid : goal.returns-in_err-fid
returns-in_err-fid g c =
    let p = err_from_is_err_and c.from_residual.result c.from_residual.ensures.1 in
    rw (p.1, p.2) (not_brought _ (place c.args.import) _ _ c.args.self.now c.in_err-fid.ensures)

pub make_local-requires-clause-live : goal.make_local-requires-clause-live
make_local-requires-clause-live g c =
    subst (λ o. IsSome o) (sym (brings_function _ c.in_ok-fid.fid c.in_ok-fid.ensures).there) refl

pub returns : goal.returns
returns g c = by_brought _ c.in_ok-fid.fid (place c.args.import) _ c.args.self.now _ c.make_local.result c.in_ok-fid.ensures c.make_local.ensures
