use Rattle.std.proofs.Common.{ap}
use Rattle.std.specs.Prelude.{option_map}
use Rattle.walrus_base.specs.Id.{place}
use Rattle.walrus_plan.proofs.matched.is_answered.Goals as goal

pub returns-in-Some-clause-not : goal.returns-in-Some-clause-not
returns-in-Some-clause-not c = λ is. (place c.in-Some.«import», (ap (option_map place) c.in-Some.is, c.is_named_by.ensures.not is))
