use Rattle.walrus_constants.proofs.Renamed.{const_renamed, const_names}
use Rattle.walrus_constants.proofs.law.constants_are_renamed.Goals as goal

pub returns-clause-renamed : goal.returns-clause-renamed
returns-clause-renamed c = λ r names agrees ops found e. const_renamed r names agrees ops found e

pub returns-clause-names : goal.returns-clause-names
returns-clause-names c = λ r names agrees ops found e. const_names r names agrees ops found e
