use Rattle.wasm_writer.proofs.WrittenModule.{written_frames_lem}
use Rattle.wasm_writer.proofs.writer.written_frames.Goals as goal

pub returns : goal.returns
returns c = written_frames_lem
