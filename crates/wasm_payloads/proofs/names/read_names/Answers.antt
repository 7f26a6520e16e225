use Rattle.std.proofs.Common.{◌≡◌, suc, ◌-◌, ◌<◌, ◌≤◌, length, refl, ap, subst, ◌∙◌, arith}
use Rattle.std.specs.Prelude.{None}
use Rattle.std.proofs.lemmas.Bool.Decides.{nat_tests}
use Rattle.std.proofs.lemmas.Result.{err_from_is_err_and}
use Rattle.wasm_payloads.specs.Sink.{IsRefused, after_all}
use Rattle.wasm_payloads.specs.Steps.{front_of, times_at, subsection_at}
use Rattle.wasm_payloads.proofs.Agree.{none_more}
use Rattle.wasm_payloads.proofs.Agreed.{subsection_ends}
use Rattle.wasm_payloads.proofs.Found.{names_are, no_bytes}
use Rattle.wasm_payloads.proofs.Handing.{begun, part_refused, part_fault, part_step, all_shown}
use Rattle.wasm_payloads.proofs.names.read_names.Goals as goal

pub loop-rest-init : goal.loop-rest-init
loop-rest-init g c =
    let e : length c.args.bytes.now ≤ length c.args.bytes.now = omega arith in
    record {
      most = length c.args.bytes.now;
      enough = e;
      progress = begun g.S.NameSink.seen g.S.NameSink.after c.args.sink.now (times_at (subsection_at (g.S.NameSink.known c.args.sink.now)) (length c.args.bytes.now) c.args.bytes.now);
      same = refl;
    }

pub returns-in_err-after-clause-handed : goal.returns-in_err-after-clause-handed
returns-in_err-after-clause-handed g c =
    let p = err_from_is_err_and c.from_residual.result c.from_residual.ensures.1 in
    let t = subsection_at (g.S.NameSink.known c.args.sink.now) in
    let whole = times_at t (length c.args.bytes.now) c.args.bytes.now in
    let e = c.in_err-after.field-0.0 in
    let n = c.loop-rest.invariant.most in
    let some : 0 < length c.loop-rest.rest.now = grind (arith, nat_tests) in
    let l : n ≡ suc (n - 1) = omega (arith, c.loop-rest.invariant.enough) in
    rw (p.1, p.2) (
      whole.0,
      (
        names_are (g.S.NameSink.known c.args.sink.now) c.args.bytes.now,
        part_refused g.S.NameSink.seen g.S.NameSink.after g.S.NameSink.refuses front_of t whole n (n - 1) c.loop-rest.rest.now c.args.sink.now c.loop-rest.sink c.tell_subsection.new.sink e l c.loop-rest.invariant.progress
            (subst (λ k. IsRefused g.S.NameSink.seen g.S.NameSink.after g.S.NameSink.refuses c.loop-rest.sink c.tell_subsection.new.sink (subsection_at k c.loop-rest.rest.now).0 e) c.loop-rest.invariant.same c.in_err-after.ensures.hands),
      ),
    )

pub returns-in_default-clause-handed : goal.returns-in_default-clause-handed
returns-in_default-clause-handed g c =
    let t = subsection_at (g.S.NameSink.known c.args.sink.now) in
    let whole = times_at t (length c.args.bytes.now) c.args.bytes.now in
    let n = c.loop-rest.invariant.most in
    let some : 0 < length c.loop-rest.rest.now = grind (arith, nat_tests) in
    let l : n ≡ suc (n - 1) = omega (arith, c.loop-rest.invariant.enough) in
    let h = subst (λ k. (g.S.NameSink.seen c.tell_subsection.new.sink ≡ after_all g.S.NameSink.after (g.S.NameSink.seen c.loop-rest.sink) (subsection_at k c.loop-rest.rest.now).0) × ((subsection_at k c.loop-rest.rest.now).1 ≡ front_of c.in_ok-after.field-0)) c.loop-rest.invariant.same c.in_ok-after.ensures.hands in (
      whole.0,
      (
        names_are (g.S.NameSink.known c.args.sink.now) c.args.bytes.now,
        (part_fault g.S.NameSink.seen g.S.NameSink.after g.S.NameSink.refuses front_of t whole n (n - 1) c.loop-rest.rest.now c.args.sink.now c.loop-rest.sink c.tell_subsection.new.sink None l c.loop-rest.invariant.progress
            refl h.0 (h.1 ∙ ap front_of c.in_default.is)).0,
      ),
    )

pub loop-rest-smaller : goal.loop-rest-smaller
loop-rest-smaller g c = (subsection_ends (g.S.NameSink.known c.loop-rest.sink)).shorter c.loop-rest.rest.now c.in-Some.after.now (c.in_ok-after.ensures.hands.1 ∙ ap front_of c.in-Some.is)

pub loop-rest-preserved : goal.loop-rest-preserved
loop-rest-preserved g c =
    let t = subsection_at (g.S.NameSink.known c.args.sink.now) in
    let whole = times_at t (length c.args.bytes.now) c.args.bytes.now in
    let n = c.loop-rest.invariant.most in
    let some : 0 < length c.loop-rest.rest.now = grind (arith, nat_tests) in
    let l : n ≡ suc (n - 1) = omega (arith, c.loop-rest.invariant.enough) in
    let h = subst (λ k. (g.S.NameSink.seen c.tell_subsection.new.sink ≡ after_all g.S.NameSink.after (g.S.NameSink.seen c.loop-rest.sink) (subsection_at k c.loop-rest.rest.now).0) × ((subsection_at k c.loop-rest.rest.now).1 ≡ front_of c.in_ok-after.field-0)) c.loop-rest.invariant.same c.in_ok-after.ensures.hands in
    let r = h.1 ∙ ap front_of c.in-Some.is in
    let fewer : length c.in-Some.after.now < length c.loop-rest.rest.now = (subsection_ends (g.S.NameSink.known c.args.sink.now)).shorter c.loop-rest.rest.now c.in-Some.after.now r in
    let enough : length c.in-Some.after.now ≤ n - 1 = omega (arith, c.loop-rest.invariant.enough) in
    record {
      most = n - 1;
      enough = enough;
      progress = part_step g.S.NameSink.seen g.S.NameSink.after t whole n (n - 1) c.loop-rest.rest.now c.in-Some.after.now c.args.sink.now c.loop-rest.sink c.tell_subsection.new.sink l c.loop-rest.invariant.progress h.0 r;
      same = c.in_ok-after.ensures.same_known ∙ c.loop-rest.invariant.same;
    }

pub returns-clause-handed : goal.returns-clause-handed
returns-clause-handed g c =
    let t = subsection_at (g.S.NameSink.known c.args.sink.now) in
    let n = c.loop-rest.invariant.most in
    let whole = times_at t (length c.args.bytes.now) c.args.bytes.now in
    let none : length c.loop-rest.rest.now ≡ 0 = grind (arith, nat_tests) in (
      whole.0,
      (
        names_are (g.S.NameSink.known c.args.sink.now) c.args.bytes.now,
        all_shown g.S.NameSink.seen g.S.NameSink.after c.args.sink.now c.loop-rest.sink whole (times_at t n c.loop-rest.rest.now) c.loop-rest.invariant.progress
            (none_more t (subsection_ends (g.S.NameSink.known c.args.sink.now)) n c.loop-rest.rest.now (no_bytes c.loop-rest.rest.now none)),
      ),
    )
