use Rattle.walrus_model.specs.Spaces.{SameThing, look}
use Rattle.walrus_model.proofs.AlongRecords.{stand_along}
use Rattle.walrus_model.proofs.family.records_stand.Goals as goal

pub returns : goal.returns
returns g = λ r v s raw law order raws e. stand_along (SameThing r s) (look v s) raw (λ w. w) law order raws e
