use Rattle.std.proofs.Common.{◌≡◌, suc, ◌+◌, ◌-◌, refl, ap, subst, ◌∙◌, arith}
use Rattle.std.specs.Prelude.{Ok, Err, Some, None}
use Rattle.std.proofs.lemmas.Result.{err_from_is_err_and}
use Rattle.wasm_payloads.specs.Sink.{IsRefused, after_all}
use Rattle.wasm_payloads.specs.Steps.{front_of, times_at, function_at, locals_at}
use Rattle.wasm_payloads.proofs.Found.{locals_found}
use Rattle.wasm_payloads.proofs.Handing.{handed_as, parts_begun, part_refused, part_fault, part_step, parts_done}
use Rattle.wasm_payloads.proofs.names.tell_locals.Goals as goal

pub functions-init : goal.functions-init
functions-init g c =
    let e : c.in-Some.count ≡ c.in-Some.count - 0 = omega arith in
    record {
      progress = parts_begun g.S.NameSink.seen g.S.NameSink.after (function_at (g.S.NameSink.known c.args.sink.now)) c.in-Some.count (c.in-Some.count - 0) c.in-Some.behind.now c.args.sink.now e;
      same = refl;
    }

pub returns-in_err-after-clause-hands : goal.returns-in_err-after-clause-hands
returns-in_err-after-clause-hands g c =
    let p = err_from_is_err_and c.from_residual.result c.from_residual.ensures.1 in
    let t = function_at (g.S.NameSink.known c.args.sink.now) in
    let whole = times_at t c.in-Some.count c.in-Some.behind.now in
    let e = c.in_err-after.field-0.0 in
    let n = c.in-Some.count - c.functions._taken in
    let m = c.in-Some.count - (c.functions._taken + 1) in
    let l : n ≡ suc m = omega arith in
    rw (p.1, p.2) (handed_as g.S.NameSink.seen g.S.NameSink.after g.S.NameSink.refuses front_of c.args.sink.now c.tell_function.new.sink (Err e) whole (locals_at (g.S.NameSink.known c.args.sink.now) c.args.bytes.now)
    (locals_found (g.S.NameSink.known c.args.sink.now) c.args.bytes.now c.in-Some.behind.now c.in-Some.count c.in-Some.ensures)
    (part_refused g.S.NameSink.seen g.S.NameSink.after g.S.NameSink.refuses front_of t whole n m c.functions.rest.now c.args.sink.now c.functions.sink c.tell_function.new.sink e l c.functions.invariant.progress
    (subst (λ k. IsRefused g.S.NameSink.seen g.S.NameSink.after g.S.NameSink.refuses c.functions.sink c.tell_function.new.sink (function_at k c.functions.rest.now).0 e) c.functions.invariant.same c.in_err-after.ensures.hands)))

pub returns-in_default-2-clause-hands : goal.returns-in_default-2-clause-hands
returns-in_default-2-clause-hands g c =
    let t = function_at (g.S.NameSink.known c.args.sink.now) in
    let whole = times_at t c.in-Some.count c.in-Some.behind.now in
    let n = c.in-Some.count - c.functions._taken in
    let m = c.in-Some.count - (c.functions._taken + 1) in
    let l : n ≡ suc m = omega arith in
    let h = subst (λ k. (g.S.NameSink.seen c.tell_function.new.sink ≡ after_all g.S.NameSink.after (g.S.NameSink.seen c.functions.sink) (function_at k c.functions.rest.now).0) × ((function_at k c.functions.rest.now).1 ≡ front_of c.in_ok-after.field-0)) c.functions.invariant.same c.in_ok-after.ensures.hands in
    handed_as g.S.NameSink.seen g.S.NameSink.after g.S.NameSink.refuses front_of c.args.sink.now c.tell_function.new.sink (Ok None) whole (locals_at (g.S.NameSink.known c.args.sink.now) c.args.bytes.now)
    (locals_found (g.S.NameSink.known c.args.sink.now) c.args.bytes.now c.in-Some.behind.now c.in-Some.count c.in-Some.ensures)
    (part_fault g.S.NameSink.seen g.S.NameSink.after g.S.NameSink.refuses front_of t whole n m c.functions.rest.now c.args.sink.now c.functions.sink c.tell_function.new.sink None l c.functions.invariant.progress
    refl h.0 (h.1 ∙ ap front_of c.in_default-2.is))

pub functions-preserved : goal.functions-preserved
functions-preserved g c =
    let t = function_at (g.S.NameSink.known c.args.sink.now) in
    let whole = times_at t c.in-Some.count c.in-Some.behind.now in
    let n = c.in-Some.count - c.functions._taken in
    let m = c.in-Some.count - (c.functions._taken + 1) in
    let l : n ≡ suc m = omega arith in
    let h = subst (λ k. (g.S.NameSink.seen c.tell_function.new.sink ≡ after_all g.S.NameSink.after (g.S.NameSink.seen c.functions.sink) (function_at k c.functions.rest.now).0) × ((function_at k c.functions.rest.now).1 ≡ front_of c.in_ok-after.field-0)) c.functions.invariant.same c.in_ok-after.ensures.hands in
    record {
      progress = part_step g.S.NameSink.seen g.S.NameSink.after t whole n m c.functions.rest.now c.in-Some-2.after.now c.args.sink.now c.functions.sink c.tell_function.new.sink l c.functions.invariant.progress
          h.0 (h.1 ∙ ap front_of c.in-Some-2.is);
      same = c.in_ok-after.ensures.same_known ∙ c.functions.invariant.same;
    }

pub returns-clause-hands : goal.returns-clause-hands
returns-clause-hands g c =
    let t = function_at (g.S.NameSink.known c.args.sink.now) in
    let whole = times_at t c.in-Some.count c.in-Some.behind.now in
    let n = c.in-Some.count - c.functions._taken in
    let l : n ≡ 0 = omega arith in
    handed_as g.S.NameSink.seen g.S.NameSink.after g.S.NameSink.refuses front_of c.args.sink.now c.functions.sink (Ok (Some c.functions.rest)) whole (locals_at (g.S.NameSink.known c.args.sink.now) c.args.bytes.now)
    (locals_found (g.S.NameSink.known c.args.sink.now) c.args.bytes.now c.in-Some.behind.now c.in-Some.count c.in-Some.ensures)
    (parts_done g.S.NameSink.seen g.S.NameSink.after g.S.NameSink.refuses front_of t whole n c.functions.rest.now c.args.sink.now c.functions.sink (Some c.functions.rest) l c.functions.invariant.progress refl)
