use Rattle.walrus_base.proofs.NewGroups.{new_groups}
use Rattle.walrus_base.proofs.law.groups_have_their_shapes.Goals as goal

pub returns : goal.returns
returns c = new_groups
