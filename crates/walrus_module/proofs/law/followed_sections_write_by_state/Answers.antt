use Rattle.walrus_module.proofs.FollowedSlots.{followed_write}
use Rattle.walrus_module.proofs.law.followed_sections_write_by_state.Goals as goal

pub returns : goal.returns
returns g c = followed_write _
