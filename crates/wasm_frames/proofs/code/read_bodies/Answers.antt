use Rattle.std.proofs.Common.{sym, ◌∙◌, arith}
use Rattle.std.proofs.lemmas.Result.{err_from_is_err_and}
use Rattle.wasm_frames.proofs.Results.{refuses_through}
use Rattle.wasm_frames.proofs.Bodies.{bodies_turn, bodies_stop, bodies_over, body_shorter}
use Rattle.wasm_frames.proofs.code.read_bodies.Goals as goal

pub returns-in_err-body : goal.returns-in_err-body
returns-in_err-body c =
    let p = err_from_is_err_and c.from_residual-in_err-body.result c.from_residual-in_err-body.ensures.1 in
    rw (p.1, p.2) (refuses_through _ _ _ (λ h. sym c.loop-index.invariant.left ∙ bodies_stop _ _ _ _ (omega arith) h) c.in_err-body.ensures)

pub loop-index-preserved : goal.loop-index-preserved
loop-index-preserved c =
    let shorter = body_shorter _ _ _ _ c.in_ok-body.ensures in
    record {
      within = omega arith;
      left = bodies_turn _ _ _ _ _ _ _ _ _ _ c.loop-index-test.true c.loop-index.invariant.within c.in_ok-body.ensures c.in_ok-push.ensures.items c.loop-index.invariant.left;
    }

pub returns : goal.returns
returns c = bodies_over _ _ _ _ _ (omega arith) c.loop-index.invariant.left
