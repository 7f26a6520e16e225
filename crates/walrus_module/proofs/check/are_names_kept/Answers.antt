use Rattle.walrus_contents.specs.View.{lent}
use Rattle.walrus_model.proofs.Deciding.{decides_by}
use Rattle.walrus_module.proofs.RulesTested.{names_hold, names_kept}
use Rattle.walrus_module.proofs.check.are_names_kept.Goals as goal

pub returns : goal.returns
returns c = decides_by (names_hold (lent c.args.parts)) (names_kept (lent c.args.parts)) _ c.in_ok-apart.ensures
