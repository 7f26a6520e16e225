use Rattle.wasm_text.proofs.Filling.{fill_run}
use Rattle.wasm_text.proofs.law.runs_are_copied.Goals as goal

pub returns : goal.returns
returns c = fill_run
