use Rattle.std.proofs.Common.{◌≡◌, ◌<◌, length, arith}
use Rattle.std.proofs.lemmas.Bool.Decides.{nat_tests}
use Rattle.wasm_frames.proofs.Modules.{one_record_lem}
use Rattle.wasm_frames.proofs.Until.{stands, lacks, next_shorter, reached_next, reached_stop, reached_end, no_module}
use Rattle.wasm_frames.proofs.read.framed_until.Goals as goal

pub returns-in_default-2-clause-found : goal.returns-in_default-2-clause-found
returns-in_default-2-clause-found c =
    let some : 0 < length c.loop-rest.rest.now = grind (arith, nat_tests) in
    reached_stop _ _ _ c.loop-rest.invariant (lacks _ _ _ c.in_default-2.is c.in_ok-behind.ensures) some

pub returns-in_default-2-clause-only : goal.returns-in_default-2-clause-only
returns-in_default-2-clause-only c = λ m h.
    let some : 0 < length c.loop-rest.rest.now = grind (arith, nat_tests) in
    no_module _ _ m (reached_stop _ _ _ c.loop-rest.invariant (lacks _ _ _ c.in_default-2.is c.in_ok-behind.ensures) some) h

pub loop-rest-smaller : goal.loop-rest-smaller
loop-rest-smaller c = next_shorter _ _ _ _ _ (stands _ _ _ _ c.in-Some-2.is c.in_ok-behind.ensures)

pub loop-rest-preserved : goal.loop-rest-preserved
loop-rest-preserved c = reached_next _ _ _ _ _ c.loop-rest.invariant (stands _ _ _ _ c.in-Some-2.is c.in_ok-behind.ensures)

pub returns-clause-only : goal.returns-clause-only
returns-clause-only c = λ m h.
    let none : length c.loop-rest.rest.now ≡ 0 = grind (arith, nat_tests) in
    one_record_lem _ _ m (reached_end _ _ _ c.loop-rest.invariant none) h
