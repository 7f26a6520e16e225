use Rattle.walrus_theorem.proofs.HandlersOnce.{handlers_once}
use Rattle.walrus_theorem.proofs.OneOutput.{one_output}
use Rattle.walrus_theorem.proofs.HandlersLive.{handlers_live}
use Rattle.walrus_theorem.proofs.KeptLives.{kept_lives}
use Rattle.walrus_theorem.proofs.NotBoth.{not_both}
use Rattle.walrus_theorem.proofs.steps.one_run.Goals as goal

pub returns-clause-handlers : goal.returns-clause-handlers
returns-clause-handlers c = handlers_once

pub returns-clause-output : goal.returns-clause-output
returns-clause-output c = one_output

pub returns-clause-not_both : goal.returns-clause-not_both
returns-clause-not_both c = not_both

pub returns-clause-lives : goal.returns-clause-lives
returns-clause-lives c = kept_lives

pub returns-clause-handlers_live : goal.returns-clause-handlers_live
returns-clause-handlers_live c = handlers_live
