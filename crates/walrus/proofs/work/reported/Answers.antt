use Rattle.walrus_module.specs.Asked.{OneMayRefuse}
use Rattle.walrus_module.specs.Flags.{config_of, flags}
use Rattle.walrus_module.specs.View.{meanings}
use Rattle.walrus_module.proofs.KeptRaw.{none_refuses}
use Rattle.walrus.proofs.ReportedLemmas.{reported}
use Rattle.walrus.proofs.work.reported.Goals as goal

pub returns : goal.returns
returns g c =
    let read = c.in_ok-module.module in
    reported (config_of (flags c.args.config.now)) (λ text. text.items) (OneMayRefuse (meanings _ read)) (none_refuses _ read c.in_ok-module.ensures.kept.raws c.in_ok-module.ensures.kept.are)
    _ _ c.deref.ensures.value _ c.report_on.result c.in_ok-module.ensures.found c.report_on.ensures
