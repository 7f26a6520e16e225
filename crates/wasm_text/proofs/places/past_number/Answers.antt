use Rattle.std.proofs.Common.{◌+◌, ◌*◌, ◌-◌, drop, inr, arith}
use Rattle.wasm_text.proofs.NumberPlaces.{passed_none, passed_more, passed_last, stands_from}
use Rattle.wasm_text.proofs.places.past_number.Goals as goal

pub groups-init : goal.groups-init
groups-init c = record { forward = omega arith; passed = (0, (1, passed_none c.args.most (drop c.args.at c.args.bytes.now))) }

pub returns-then-byte-lt128 : goal.returns-then-byte-lt128
returns-then-byte-lt128 c =
    let p = c.groups.invariant.passed in
    let n = p.0 + p.1.0 * c.in-Some.byte in
    inr (
      n,
      stands_from c.args.most c.args.bytes.now c.args.at (c.groups.place + 1) n (omega (arith, c.groups.invariant.forward, c.in-Some.ensures.1)) (omega (arith, c.in-Some.ensures.1))
          (passed_last c.args.most c.groups._group (drop c.args.at c.args.bytes.now) (drop c.groups.place c.args.bytes.now) (drop (c.groups.place + 1) c.args.bytes.now) p.0 p.1.0 c.in-Some.byte c.groups-test.true c.in-Some.ensures.0 c.if-byte-lt128.true p.1.1),
    )

pub groups-preserved : goal.groups-preserved
groups-preserved c =
    let p = c.groups.invariant.passed in
    record {
      forward = omega (arith, c.groups.invariant.forward);
      passed = (
        p.0 + p.1.0 * (c.in-Some.byte - 128),
        (
          p.1.0 * 128,
          passed_more c.args.most c.groups._group (drop c.args.at c.args.bytes.now) (drop c.groups.place c.args.bytes.now) (drop (c.groups.place + 1) c.args.bytes.now) p.0 p.1.0 c.in-Some.byte c.groups-test.true c.in-Some.ensures.0 (omega (arith, c.if-byte-lt128.false)) c.in-Some.ensures.2 p.1.1,
        ),
      );
    }
