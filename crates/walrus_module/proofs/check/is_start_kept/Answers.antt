use Rattle.walrus_contents.specs.View.{lent}
use Rattle.walrus_model.proofs.Deciding.{told_last}
use Rattle.walrus_module.proofs.RulesTested.{start_holds, start_kept}
use Rattle.walrus_module.proofs.check.is_start_kept.Goals as goal

pub returns : goal.returns
returns c = told_last _ _ c.is_start_empty.ensures (start_holds (lent c.args.parts)) (start_kept (lent c.args.parts))
