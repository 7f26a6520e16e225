use Rattle.walrus_constants.proofs.Renamed.{const_in_place}
use Rattle.walrus_constants.proofs.law.constants_stay_in_place.Goals as goal

pub returns : goal.returns
returns c = λ names h ops found e. const_in_place names h ops found e
