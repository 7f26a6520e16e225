use Rattle.walrus_examples.proofs.MovesOnce as all
use Rattle.walrus_examples.proofs.law.moves_once.Goals as goal

pub returns : goal.returns
returns c = all.moves_once
