use Rattle.walrus_edit_list.proofs.FineFunctions.{set_formed}
use Rattle.walrus_edit_list.proofs.law.sets_stay_formed.Goals as goal

pub returns : goal.returns
returns c = set_formed
