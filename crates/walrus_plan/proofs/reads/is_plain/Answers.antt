use Rattle.walrus_plan.proofs.ReadsBefore.{plain_names_nothing}
use Rattle.walrus_plan.proofs.reads.is_plain.Goals as goal

pub returns-in-Value : goal.returns-in-Value
returns-in-Value c = λ is. plain_names_nothing c.args.initialiser.now c.in-Value.field-0 c.in-Value.is
