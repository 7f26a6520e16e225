use Rattle.std.proofs.Common.{List, ℕ, sym, subst}
use Rattle.wasm_text.specs.Bodies.{IsBody}
use Rattle.wasm_text.specs.Marks.{AreInOrder}
use Rattle.wasm_text.proofs.Leaving.{left_in_order}
use Rattle.wasm_tests.proofs.appended.rewritten.Goals as goal

pub append_filled-requires : goal.append_filled-requires
append_filled-requires c =
    let room = c.scan_body.new.unmarked in
    let left = c.scan_body.new.marks.items in
    let body : IsBody _ room c.args.bytes.now left c.in-Some._count = rw c.in-Some.is at c.in_ok-_count.ensures.body in
    subst (λ (ms : List ℕ). AreInOrder c.args.bytes.now 0 ms) (sym c.as_slice.ensures.value)
    (left_in_order room.first room.accessed c.args.bytes.now 0 body.marks left body.holds.shown.ordered body.are_left)
