use Rattle.wasm_frames.proofs.Modules.{one_record_lem}
use Rattle.wasm_frames.proofs.read.one_record.Goals as goal

pub returns : goal.returns
returns c = one_record_lem
