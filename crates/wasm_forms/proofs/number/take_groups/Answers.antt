use Rattle.std.proofs.Common.{◌≡◌, suc, ◌-◌, ◌+◌, ap, ◌∙◌, arith, inr}
use Rattle.wasm_forms.specs.Reading.{◌>>=◌}
use Rattle.wasm_forms.specs.Number.{leb_at, sleb_at, above, signed_above}
use Rattle.wasm_forms.proofs.Turns.{unsigned_turn, signed_turn, unsigned_stop, signed_stop, unsigned_full, signed_full, unsigned_start, signed_start, power_up, power_next, scale_room, value_room}
use Rattle.wasm_forms.proofs.number.take_groups.Goals as goal

pub groups-init : goal.groups-init
groups-init c =
    let e : c.args.most ≡ c.args.most - 0 = omega arith in
    record {
      unsigned = unsigned_start (leb_at (suc c.args.most) c.args.bytes.now) ∙ ap (λ k. leb_at (suc k) c.args.bytes.now >>= above 0 1) e;
      signed = signed_start (sleb_at (suc c.args.most) c.args.bytes.now) ∙ ap (λ k. sleb_at (suc k) c.args.bytes.now >>= signed_above 0 1) e;
      small = omega arith;
      power = omega arith;
    }

pub returns-in_default-clause-unsigned : goal.returns-in_default-clause-unsigned
returns-in_default-clause-unsigned c = c.groups.invariant.unsigned ∙ unsigned_stop (c.args.most - c.groups._taken) c.groups.value c.groups.scale c.groups.rest.now (c.in_default.ensures)

pub returns-in_default-clause-signed : goal.returns-in_default-clause-signed
returns-in_default-clause-signed c = c.groups.invariant.signed ∙ signed_stop (c.args.most - c.groups._taken) c.groups.value c.groups.scale c.groups.rest.now (c.in_default.ensures)

pub returns-in_default-clause-scaled : goal.returns-in_default-clause-scaled
returns-in_default-clause-scaled c = omega (arith, c.groups.invariant.power, power_up c.groups._taken c.args.most (omega arith))

pub returns-in_default-clause-stepped : goal.returns-in_default-clause-stepped
returns-in_default-clause-stepped c =
    let e = power_next c.groups.scale c.groups._taken c.groups.invariant.power in
    let l = power_up (c.groups._taken + 1) c.args.most (omega arith) in
    inr (omega (arith, e, l))

pub overflow_mul-value : goal.overflow_mul-value
overflow_mul-value c =
    let v = c.in-Some.ensures in
    record { fits = omega (arith, value_room c.groups.value c.groups.scale c.in-Some.bits c.groups.invariant.small v.1, scale_room c.groups.scale c.groups._taken c.args.most c.groups.invariant.power (omega arith) (omega arith)) }

pub overflow_add-value : goal.overflow_add-value
overflow_add-value c =
    let v = c.in-Some.ensures in
    record { fits = omega (arith, value_room c.groups.value c.groups.scale c.in-Some.bits c.groups.invariant.small v.1, scale_room c.groups.scale c.groups._taken c.args.most c.groups.invariant.power (omega arith) (omega arith)) }

pub overflow_mul-scale : goal.overflow_mul-scale
overflow_mul-scale c = record { fits = omega (arith, scale_room c.groups.scale c.groups._taken c.args.most c.groups.invariant.power (omega arith) (omega arith)) }

pub groups-preserved : goal.groups-preserved
groups-preserved c =
    let v = c.in-Some.ensures in
    let e : c.args.most - c.groups._taken ≡ suc (c.args.most - (c.groups._taken + 1)) = omega arith in
    record {
      unsigned = c.groups.invariant.unsigned ∙ ap (λ k. leb_at (suc k) c.groups.rest.now >>= above c.groups.value c.groups.scale) e
          ∙ unsigned_turn (suc (c.args.most - (c.groups._taken + 1))) c.groups.value c.groups.scale c.in-Some.bits c.groups.rest.now c.in-Some.after.now v;
      signed = c.groups.invariant.signed ∙ ap (λ k. sleb_at (suc k) c.groups.rest.now >>= signed_above c.groups.value c.groups.scale) e
          ∙ signed_turn (suc (c.args.most - (c.groups._taken + 1))) c.groups.value c.groups.scale c.in-Some.bits c.groups.rest.now c.in-Some.after.now c.groups.invariant.small v;
      small = value_room c.groups.value c.groups.scale c.in-Some.bits c.groups.invariant.small v.1;
      power = power_next c.groups.scale c.groups._taken c.groups.invariant.power;
    }

pub returns-clause-unsigned : goal.returns-clause-unsigned
returns-clause-unsigned c =
    let e : c.args.most - c.groups._taken ≡ 0 = omega arith in
    c.groups.invariant.unsigned ∙ ap (λ k. leb_at (suc k) c.groups.rest.now >>= above c.groups.value c.groups.scale) e ∙ unsigned_full c.groups.value c.groups.scale c.groups.rest.now

pub returns-clause-signed : goal.returns-clause-signed
returns-clause-signed c =
    let e : c.args.most - c.groups._taken ≡ 0 = omega arith in
    c.groups.invariant.signed ∙ ap (λ k. sleb_at (suc k) c.groups.rest.now >>= signed_above c.groups.value c.groups.scale) e ∙ signed_full c.groups.value c.groups.scale c.groups.rest.now
