use Rattle.walrus_theorem.proofs.EditSound.{well_made_is_sound}
use Rattle.walrus_theorem.proofs.edits.well_made_is_sound.Goals as goal

pub returns : goal.returns
returns c = well_made_is_sound
