use Rattle.walrus_module.proofs.HeldSegments.{held_has_segments}
use Rattle.walrus_module.proofs.edits.active_segments_are_listed.Goals as goal

pub returns : goal.returns
returns c = held_has_segments
