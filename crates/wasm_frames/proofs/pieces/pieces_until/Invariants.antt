-- The bytes are the header, the sections so far, and what is left.
use Rattle.std.proofs.Common.{length, map}
use Rattle.wasm_frames.specs.Pieces.{piece_record}
use Rattle.wasm_frames.proofs.PiecesReached.{PiecesReached}
use Rattle.wasm_frames.proofs.pieces.pieces_until.Given as goal

abbrev pub invariant-loop-rest : goal.invariant-loop-rest
invariant-loop-rest l = PiecesReached l.bytes l.rest (map piece_record l.pieces.items)

abbrev pub decreases-loop-rest : goal.decreases-loop-rest
decreases-loop-rest l = length l.rest
