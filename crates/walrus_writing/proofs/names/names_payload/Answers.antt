use Rattle.walrus_writing.proofs.NamesLemmas.{chosen_spelled}
use Rattle.walrus_writing.proofs.names.names_payload.Goals as goal

pub returns : goal.returns
returns c = λ used named. chosen_spelled c.args.chosen _ _ c.spelled.result c.if-not-chosen.false (c.in_ok-raw.ensures.value used (named c.if-not-chosen.false)) c.spelled.ensures
