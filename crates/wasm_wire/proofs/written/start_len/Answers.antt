use Rattle.std.proofs.Common.{refl}
use Rattle.wasm_frames.specs.Frames.{Start}
use Rattle.wasm_wire.proofs.ModuleMeasured.{given_told}
use Rattle.wasm_wire.proofs.written.start_len.Goals as goal

pub returns-in-Some : goal.returns-in-Some
returns-in-Some c = rw c.in-Some.is (given_told c.measure.result (Start c.in-Some.function) refl (c.measure.ensures (Start c.in-Some.function) refl))
