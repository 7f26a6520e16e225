use Rattle.wasm_wire.proofs.ModuleFramed.{module_frames}
use Rattle.wasm_wire.proofs.written.written_module_frames.Goals as goal

pub returns : goal.returns
returns c = module_frames
