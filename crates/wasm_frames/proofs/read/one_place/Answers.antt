use Rattle.wasm_frames.proofs.Until.{one_place_lem, no_module}
use Rattle.wasm_frames.proofs.read.one_place.Goals as goal

pub returns-clause-once : goal.returns-clause-once
returns-clause-once c = one_place_lem

pub returns-clause-apart : goal.returns-clause-apart
returns-clause-apart c = no_module
