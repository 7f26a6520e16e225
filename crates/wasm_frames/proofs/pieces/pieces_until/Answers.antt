use Rattle.std.proofs.Common.{◌<◌, length, arith}
use Rattle.std.proofs.lemmas.Bool.Decides.{nat_tests}
use Rattle.wasm_frames.proofs.Until.{stands, lacks}
use Rattle.wasm_frames.proofs.PiecesReached.{piece_shorter, pieces_next, pieces_stop}
use Rattle.wasm_frames.proofs.pieces.pieces_until.Goals as goal

pub returns-in_default-2 : goal.returns-in_default-2
returns-in_default-2 c =
    let some : 0 < length c.loop-rest.rest.now = grind (arith, nat_tests) in
    pieces_stop _ _ _ c.loop-rest.invariant (lacks _ _ _ c.in_default-2.is c.in_ok-piece.ensures) some

pub loop-rest-smaller : goal.loop-rest-smaller
loop-rest-smaller c = piece_shorter _ _ _ _ (stands _ _ _ _ c.in-Some-2.is c.in_ok-piece.ensures)

pub loop-rest-preserved : goal.loop-rest-preserved
loop-rest-preserved c =
    pieces_next _ _ _ _ _ c.in-Some-2.piece c.loop-rest.invariant (stands _ _ _ _ c.in-Some-2.is c.in_ok-piece.ensures) c.in_ok-push.ensures.items
