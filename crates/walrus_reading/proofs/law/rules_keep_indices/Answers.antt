use Rattle.walrus_reading.proofs.StaysByRules.{all_stay}
use Rattle.walrus_reading.proofs.law.rules_keep_indices.Goals as goal

pub returns : goal.returns
returns c = λ names counts m numbered count h. all_stay names counts numbered m count h
