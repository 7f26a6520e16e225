use Rattle.walrus_model.proofs.Indices.{planned_indices, planned_one, planned_rising}
use Rattle.walrus_model.proofs.family.plans_number.Goals as goal

pub returns-clause-indices : goal.returns-clause-indices
returns-clause-indices g = planned_indices

pub returns-clause-one_each : goal.returns-clause-one_each
returns-clause-one_each g = λ names plan v numbered is_plan s i j k. planned_one numbered is_plan s i j k

pub returns-clause-rising : goal.returns-clause-rising
returns-clause-rising g = planned_rising
