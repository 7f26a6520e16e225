use Rattle.walrus_theorem.proofs.OneSpelling.{spelled_once, spelled_as_once}
use Rattle.walrus_theorem.proofs.spelling.spelled_once.Goals as goal

pub returns-clause-once : goal.returns-clause-once
returns-clause-once c = spelled_once

pub returns-clause-bytes : goal.returns-clause-bytes
returns-clause-bytes c = spelled_as_once
