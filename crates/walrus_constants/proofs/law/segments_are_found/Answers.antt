use Rattle.walrus_constants.proofs.SegmentsNamed.{element_numbers, element_named, data_numbers, data_named}
use Rattle.walrus_constants.proofs.law.segments_are_found.Goals as goal

pub returns-clause-elements : goal.returns-clause-elements
returns-clause-elements c = λ names e. (element_numbers names e, element_named names e)

pub returns-clause-data_segments : goal.returns-clause-data_segments
returns-clause-data_segments c = λ names d. (data_numbers names d, data_named names d)
