use Rattle.walrus_edit_list.proofs.ReadFormed.{read_formed}
use Rattle.walrus_edit_list.proofs.law.bodies_read_are_formed.Goals as goal

pub returns : goal.returns
returns c = read_formed
