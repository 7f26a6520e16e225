-- The bytes are the header, whole sections that hold the records so far, and what is left.
use Rattle.std.proofs.Common.{length}
use Rattle.wasm_frames.specs.Record.{sections}
use Rattle.wasm_frames.proofs.Until.{Reached}
use Rattle.wasm_frames.proofs.read.framed_until.Given as goal

abbrev pub invariant-loop-rest : goal.invariant-loop-rest
invariant-loop-rest l = Reached l.bytes l.rest (sections l.raw)

abbrev pub decreases-loop-rest : goal.decreases-loop-rest
decreases-loop-rest l = length l.rest
