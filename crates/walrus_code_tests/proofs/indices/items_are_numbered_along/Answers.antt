use Rattle.walrus_base.specs.Id.{place}
use Rattle.walrus_code_tests.proofs.Apart.{apart}
use Rattle.walrus_code_tests.proofs.indices.items_are_numbered_along.Goals as goal

pub along-requires-clause-distinct : goal.along-requires-clause-distinct
along-requires-clause-distinct c = apart (place c.at.result) (place c.at-2.result) c.at.ensures c.at-2.ensures
