use Rattle.walrus_model.proofs.Planned.{planned_carries, planned_apart, planned_rises}
use Rattle.walrus_model.proofs.Spaces.{carried_from}
use Rattle.walrus_model.specs.Live.{IsLive}
use Rattle.walrus_model.proofs.family.plans_carry.Goals as goal

pub returns-clause-carries : goal.returns-clause-carries
returns-clause-carries g = λ names plan v n r numbered is_plan by written s. planned_carries names plan numbered v n is_plan r by (λ x. ⊥) s (written s)

pub returns-clause-rises : goal.returns-clause-rises
returns-clause-rises g = λ names plan v n r numbered is_plan by. planned_rises names plan numbered v n is_plan r by

pub returns-clause-whole : goal.returns-clause-whole
returns-clause-whole g = λ names plan v n r numbered is_plan by written imports imports_apart exports start.
    carried_from (IsLive v) (λ x. ⊥) r v n
    (λ s. planned_carries names plan numbered v n is_plan r by (λ x. ⊥) s (written s))
    imports imports_apart
    (λ s no_type. planned_apart names plan numbered v n is_plan r by s)
    exports start
