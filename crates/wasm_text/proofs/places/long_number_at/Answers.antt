use Rattle.std.proofs.Common.{◌+◌, ◌*◌, ◌-◌, ◌<◌, drop, sym, subst, ap, arith}
use Rattle.std.proofs.lemmas.List.{drop_all}
use Rattle.wasm_forms.proofs.Turns.{value_room, scale_room, power_next}
use Rattle.wasm_text.specs.Places.{IsNumberAt}
use Rattle.wasm_text.proofs.NumberPlaces.{Passed, passed_more, passed_last, passed_end, passed_all, value_from, no_value}
use Rattle.wasm_text.proofs.places.long_number_at.Goals as goal

pub returns-in_default : goal.returns-in_default
returns-in_default c =
    no_value c.args.bytes.now c.args.at 18446744073709551615
    (passed_end 5 (5 - c.groups._group) (drop c.args.at c.args.bytes.now) (drop c.groups.place c.args.bytes.now) c.groups.value c.groups.scale
    (drop_all c.groups.place c.args.bytes.now c.in_default.ensures) c.groups.invariant.passed)

pub overflow_mul-result : goal.overflow_mul-result
overflow_mul-result c =
    let r = value_room c.groups.value c.groups.scale c.in-Some.byte c.groups.invariant.small c.if-byte-lt128.true in
    record { fits = omega (arith, ap (λ k. c.groups.scale * k) c.from.ensures, r, scale_room c.groups.scale c.groups._group 5 c.groups.invariant.power c.groups-test.true (omega arith)) }

pub overflow_add-result : goal.overflow_add-result
overflow_add-result c =
    let r = value_room c.groups.value c.groups.scale c.in-Some.byte c.groups.invariant.small c.if-byte-lt128.true in
    record { fits = omega (arith, ap (λ k. c.groups.scale * k) c.from.ensures, r, scale_room c.groups.scale c.groups._group 5 c.groups.invariant.power c.groups-test.true (omega arith)) }

pub returns-then-byte-lt128 : goal.returns-then-byte-lt128
returns-then-byte-lt128 c =
    subst (λ k. IsNumberAt c.args.bytes.now c.args.at (c.groups.value + c.groups.scale * k)) (sym c.from.ensures)
    (value_from c.args.bytes.now c.args.at (c.groups.value + c.groups.scale * c.in-Some.byte) (drop (c.groups.place + 1) c.args.bytes.now)
    (passed_last 5 c.groups._group (drop c.args.at c.args.bytes.now) (drop c.groups.place c.args.bytes.now) (drop (c.groups.place + 1) c.args.bytes.now) c.groups.value c.groups.scale c.in-Some.byte
    c.groups-test.true c.in-Some.ensures.0 c.if-byte-lt128.true c.groups.invariant.passed))

pub overflow_mul-value : goal.overflow_mul-value
overflow_mul-value c =
    let b : c.in-Some.byte - 128 < 128 = omega (arith, c.in-Some.ensures.2, c.if-byte-lt128.false) in
    let r = value_room c.groups.value c.groups.scale (c.in-Some.byte - 128) c.groups.invariant.small b in
    record { fits = omega (arith, ap (λ k. c.groups.scale * (k - 128)) c.from-in-groups.ensures, r, scale_room c.groups.scale c.groups._group 5 c.groups.invariant.power c.groups-test.true (omega arith)) }

pub overflow_add-value : goal.overflow_add-value
overflow_add-value c =
    let b : c.in-Some.byte - 128 < 128 = omega (arith, c.in-Some.ensures.2, c.if-byte-lt128.false) in
    let r = value_room c.groups.value c.groups.scale (c.in-Some.byte - 128) c.groups.invariant.small b in
    record { fits = omega (arith, ap (λ k. c.groups.scale * (k - 128)) c.from-in-groups.ensures, r, scale_room c.groups.scale c.groups._group 5 c.groups.invariant.power c.groups-test.true (omega arith)) }

pub overflow_mul-scale : goal.overflow_mul-scale
overflow_mul-scale c = record { fits = omega (arith, scale_room c.groups.scale c.groups._group 5 c.groups.invariant.power c.groups-test.true (omega arith)) }

pub groups-preserved : goal.groups-preserved
groups-preserved c =
    let b : c.in-Some.byte - 128 < 128 = omega (arith, c.in-Some.ensures.2, c.if-byte-lt128.false) in
    let e = ap (λ k. c.groups.value + c.groups.scale * (k - 128)) (sym c.from-in-groups.ensures) in
    record {
      passed = subst (λ k. Passed 5 (5 - (c.groups._group + 1)) (drop c.args.at c.args.bytes.now) (drop (c.groups.place + 1) c.args.bytes.now) k (c.groups.scale * 128)) e
          (passed_more 5 c.groups._group (drop c.args.at c.args.bytes.now) (drop c.groups.place c.args.bytes.now) (drop (c.groups.place + 1) c.args.bytes.now) c.groups.value c.groups.scale c.in-Some.byte
          c.groups-test.true c.in-Some.ensures.0 (omega (arith, c.if-byte-lt128.false)) c.in-Some.ensures.2 c.groups.invariant.passed);
      small = subst (λ k. k < c.groups.scale * 128) e (value_room c.groups.value c.groups.scale (c.in-Some.byte - 128) c.groups.invariant.small b);
      power = power_next c.groups.scale c.groups._group c.groups.invariant.power;
    }

pub returns : goal.returns
returns c =
    no_value c.args.bytes.now c.args.at 18446744073709551615
    (passed_all 5 (5 - c.groups._group) (drop c.args.at c.args.bytes.now) (drop c.groups.place c.args.bytes.now) c.groups.value c.groups.scale
    (omega (arith, c.groups-test.false)) c.groups.invariant.passed)
