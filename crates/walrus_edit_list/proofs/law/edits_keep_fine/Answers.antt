use Rattle.walrus_edit_list.proofs.Keeping.{keep_fine}
use Rattle.walrus_edit_list.proofs.law.edits_keep_fine.Goals as goal

pub returns : goal.returns
returns c = keep_fine
