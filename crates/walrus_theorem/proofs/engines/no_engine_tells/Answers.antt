use Rattle.walrus_theorem.proofs.EnginesHave.{read_has_segments, some_engine_tells}
use Rattle.walrus_theorem.proofs.EnginesNames.{names_are_all}
use Rattle.walrus_theorem.proofs.EnginesRun.{run_looks_same}
use Rattle.walrus_theorem.proofs.EnginesWalk.{out_looks_same, written_looks_same}
use Rattle.walrus_theorem.proofs.engines.no_engine_tells.Goals as goal

pub returns-clause-out : goal.returns-clause-out
returns-clause-out c = out_looks_same

pub returns-clause-written : goal.returns-clause-written
returns-clause-written c = written_looks_same

pub returns-clause-runs : goal.returns-clause-runs
returns-clause-runs c = run_looks_same

pub returns-clause-begins : goal.returns-clause-begins
returns-clause-begins c = read_has_segments

pub returns-clause-tells : goal.returns-clause-tells
returns-clause-tells c = some_engine_tells

pub returns-clause-names : goal.returns-clause-names
returns-clause-names c = names_are_all
