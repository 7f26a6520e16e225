use Rattle.walrus_sections.proofs.Records.{one_list}
use Rattle.walrus_sections.proofs.choice.list_is_one.Goals as goal

pub returns : goal.returns
returns c = λ bytes choices others. one_list choices others bytes
