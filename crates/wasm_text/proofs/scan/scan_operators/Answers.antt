use Rattle.std.proofs.Common.{ℕ, ◌≡◌, length, reverse, refl, ap, ◌∙◌, arith}
use Rattle.std.specs.Prelude.{vec_len}
use Rattle.wasm_text.specs.declared.limits.Limits.{Limits}
use Rattle.wasm_text.specs.Bodies.{blocks_of}
use Rattle.wasm_text.proofs.Bodies.{nothing_yet, one_more, room_next, many_open, ended}
use Rattle.wasm_text.proofs.Scans.{got}
use Rattle.wasm_text.proofs.scan.scan_operators.Goals as goal

pub operators-init : goal.operators-init
operators-init c = record {
  so_far = nothing_yet c.args.limits.now c.args.unmarked.now c.args.bytes.now c.args.marks.now.items (blocks_of c.args.opened.now) c.requires.none c.requires.unnamed (ap reverse c.requires.alone);
  here = ap (λ (n : ℕ). record c.args.limits.now { labels = n }) c.len.ensures;
  unclosed = omega (arith, c.args.opened.now.ok.0, ap length c.requires.alone);
  passed = omega arith;
  room = omega (arith, c.requires.room.2);
  first = refl;
}

pub scan_operator-requires-clause-room : goal.scan_operator-requires-clause-room
scan_operator-requires-clause-room c =
    room_next c.args.limits.now c.operators.unmarked c.operators.marks c.args.bytes.now c.operators.count c.operators.at (blocks_of c.operators.opened) c.operators.invariant.so_far c.requires.room.1 c.operators.invariant.room (omega (arith, c.operators-test.true))

pub scan_operator-requires-clause-labels : goal.scan_operator-requires-clause-labels
scan_operator-requires-clause-labels c = ap (λ (l : Limits). l.labels) c.operators.invariant.here

pub operators-preserved : goal.operators-preserved
operators-preserved c =
    let next = got c.in_ok-behind.behind c.in_ok-behind.ensures.scans c.if-behind.false in
    let labels = got c.in_ok-behind.behind c.in_ok-behind.ensures.labels c.if-behind.false in
    record {
      so_far = one_more c.args.limits.now c.operators.here c.operators.unmarked c.scan_operator.new.unmarked c.args.bytes.now c.operators.marks.items c.scan_operator.new.marks.items c.operators.count c.operators.at c.in_ok-behind.behind (vec_len c.operators.opened)
          (blocks_of c.operators.opened) (blocks_of c.scan_operator.new.opened) c.operators.invariant.so_far c.operators.invariant.here c.operators.invariant.unclosed (many_open c.operators.opened) next;
      here = labels ∙ ap (λ (l : Limits). record l { labels = vec_len c.scan_operator.new.opened }) c.operators.invariant.here;
      unclosed = got c.in_ok-behind.behind c.in_ok-behind.ensures.some c.if-behind.false;
      passed = omega (arith, c.operators.invariant.passed, next.found.forward);
      room = omega (arith, c.operators.invariant.room, c.in_ok-behind.ensures.capacity);
      first = c.in_ok-behind.ensures.first ∙ c.operators.invariant.first;
    }

pub returns-clause-body : goal.returns-clause-body
returns-clause-body c =
    let labels : c.operators.here.labels ≡ vec_len c.operators.opened = ap (λ (l : Limits). l.labels) c.operators.invariant.here in
    let last = got c.past_last_end-last.result c.past_last_end-last.ensures c.if-last.false in
    ended c.args.limits.now c.operators.here c.operators.unmarked c.args.bytes.now c.operators.marks.items c.operators.count c.operators.at (vec_len c.operators.opened) (blocks_of c.operators.opened)
    c.operators.invariant.so_far c.operators.invariant.here (omega (arith, labels)) (many_open c.operators.opened) last.0 last.1
