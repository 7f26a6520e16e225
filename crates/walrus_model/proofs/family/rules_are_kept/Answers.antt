use Rattle.std.specs.Prelude.{◌<◌}
use Rattle.walrus_base.specs.Operators.{Types, Globals}
use Rattle.walrus_model.specs.Order.{ByImport}
use Rattle.walrus_model.proofs.RulesSteps.{collected_keeps_rules}
use Rattle.walrus_model.proofs.RulesTaken.{whole_keeps_rules}
use Rattle.walrus_model.proofs.family.rules_are_kept.Goals as goal

pub returns-clause-collected : goal.returns-clause-collected
returns-clause-collected g = λ v w h c live made. collected_keeps_rules v w h c live made

pub returns-clause-written : goal.returns-clause-written
returns-clause-written g = λ r v n h c rises locals. whole_keeps_rules (ByImport v) (λ space i j. i < j) r v n h c (rises Types) (rises Globals) locals
