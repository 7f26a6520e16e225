use Rattle.std.proofs.Common.{refl}
use Rattle.wasm_frames.specs.Frames.{DataCount}
use Rattle.wasm_wire.proofs.ModuleMeasured.{given_told}
use Rattle.wasm_wire.proofs.written.data_count_len.Goals as goal

pub returns-in-Some : goal.returns-in-Some
returns-in-Some c = rw c.in-Some.is (given_told c.measure.result (DataCount c.in-Some.number) refl (c.measure.ensures (DataCount c.in-Some.number) refl))
