use Rattle.walrus_base.specs.Id.{place}
use Rattle.walrus_module.proofs.ReplacedLemmas.{by_first_import, import_lives}
use Rattle.walrus_module.proofs.module.Module.replace_imported_func.Goals as goal

pub make_local-requires-clause-live : goal.make_local-requires-clause-live
make_local-requires-clause-live g c =
    import_lives (λ shown given answer left. Unit {0}) c.args.fid c.args.self.now c.args.self.now (place c.in-Some.import) c.in-Some.ensures

pub returns : goal.returns
returns g c =
    by_first_import _ c.args.fid c.args.self.now _ (place c.in-Some.import) c.in-Some.ensures c.make_local.result c.make_local.ensures
