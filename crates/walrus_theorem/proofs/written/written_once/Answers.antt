use Rattle.walrus_theorem.proofs.BytesOnce.{premises_hold, living_keeps, bytes_once}
use Rattle.walrus_theorem.proofs.Needs.{are_needed}
use Rattle.walrus_theorem.proofs.TextShaped.{written_once}
use Rattle.walrus_theorem.proofs.written.written_once.Goals as goal

pub returns-clause-once : goal.returns-clause-once
returns-clause-once c = written_once

pub returns-clause-premises : goal.returns-clause-premises
returns-clause-premises c = premises_hold

pub returns-clause-living : goal.returns-clause-living
returns-clause-living c = living_keeps

pub returns-clause-bytes : goal.returns-clause-bytes
returns-clause-bytes c = bytes_once

pub returns-clause-needed : goal.returns-clause-needed
returns-clause-needed c = are_needed
