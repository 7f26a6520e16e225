use Rattle.walrus_edit_list.proofs.EditRows.{one_row}
use Rattle.walrus_edit_list.proofs.law.one_list.Goals as goal

pub returns : goal.returns
returns c = one_row
