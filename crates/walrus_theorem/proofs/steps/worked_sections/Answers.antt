use Rattle.walrus_theorem.proofs.WorkedCustoms.{customs_run, customs_settled}
use Rattle.walrus_theorem.proofs.WorkedNames.{names_run}
use Rattle.walrus_theorem.proofs.WorkedProducers.{producers_run}
use Rattle.walrus_theorem.proofs.steps.worked_sections.Goals as goal

pub returns-clause-producers : goal.returns-clause-producers
returns-clause-producers c = producers_run

pub returns-clause-customs : goal.returns-clause-customs
returns-clause-customs c = customs_run

pub returns-clause-names : goal.returns-clause-names
returns-clause-names c = names_run

pub returns-clause-settled : goal.returns-clause-settled
returns-clause-settled c = customs_settled
