use Rattle.std.proofs.Common.{◌≡◌, suc, ◌+◌, ◌-◌, refl, ap, ◌∙◌, arith}
use Rattle.std.specs.Prelude.{Ok, Err, Some, None}
use Rattle.std.proofs.lemmas.Result.{err_from_is_err_and}
use Rattle.wasm_payloads.specs.Steps.{front_of, times_at, owned, entry_at, map_at}
use Rattle.wasm_payloads.proofs.Found.{map_found}
use Rattle.wasm_payloads.proofs.Handing.{handed_as, parts_begun, part_refused, part_fault, part_step, parts_done}
use Rattle.wasm_payloads.proofs.names.tell_map.Goals as goal

pub entries-init : goal.entries-init
entries-init g c =
    let e : c.in-Some.count ≡ c.in-Some.count - 0 = omega arith in
    record {
      progress = parts_begun g.S.NameSink.seen g.S.NameSink.after (entry_at (owned c.args.owner)) c.in-Some.count (c.in-Some.count - 0) c.in-Some.behind.now c.args.sink.now e;
      same = refl;
    }

pub returns-in_err-after-clause-hands : goal.returns-in_err-after-clause-hands
returns-in_err-after-clause-hands g c =
    let p = err_from_is_err_and c.from_residual.result c.from_residual.ensures.1 in
    let t = entry_at (owned c.args.owner) in
    let whole = times_at t c.in-Some.count c.in-Some.behind.now in
    let e = c.in_err-after.field-0.0 in
    let n = c.in-Some.count - c.entries._taken in
    let m = c.in-Some.count - (c.entries._taken + 1) in
    let l : n ≡ suc m = omega arith in
    rw (p.1, p.2) (handed_as g.S.NameSink.seen g.S.NameSink.after g.S.NameSink.refuses front_of c.args.sink.now c.tell_entry.new.sink (Err e) whole (map_at (owned c.args.owner) c.args.bytes.now)
    (map_found (owned c.args.owner) c.args.bytes.now c.in-Some.behind.now c.in-Some.count c.in-Some.ensures)
    (part_refused g.S.NameSink.seen g.S.NameSink.after g.S.NameSink.refuses front_of t whole n m c.entries.rest.now c.args.sink.now c.entries.sink c.tell_entry.new.sink e l c.entries.invariant.progress
    c.in_err-after.ensures.hands))

pub returns-in_default-2-clause-hands : goal.returns-in_default-2-clause-hands
returns-in_default-2-clause-hands g c =
    let t = entry_at (owned c.args.owner) in
    let whole = times_at t c.in-Some.count c.in-Some.behind.now in
    let n = c.in-Some.count - c.entries._taken in
    let m = c.in-Some.count - (c.entries._taken + 1) in
    let l : n ≡ suc m = omega arith in
    let h = c.in_ok-after.ensures.hands in
    handed_as g.S.NameSink.seen g.S.NameSink.after g.S.NameSink.refuses front_of c.args.sink.now c.tell_entry.new.sink (Ok None) whole (map_at (owned c.args.owner) c.args.bytes.now)
    (map_found (owned c.args.owner) c.args.bytes.now c.in-Some.behind.now c.in-Some.count c.in-Some.ensures)
    (part_fault g.S.NameSink.seen g.S.NameSink.after g.S.NameSink.refuses front_of t whole n m c.entries.rest.now c.args.sink.now c.entries.sink c.tell_entry.new.sink None l c.entries.invariant.progress
    refl h.0 (h.1 ∙ ap front_of c.in_default-2.is))

pub entries-preserved : goal.entries-preserved
entries-preserved g c =
    let t = entry_at (owned c.args.owner) in
    let whole = times_at t c.in-Some.count c.in-Some.behind.now in
    let n = c.in-Some.count - c.entries._taken in
    let m = c.in-Some.count - (c.entries._taken + 1) in
    let l : n ≡ suc m = omega arith in
    let h = c.in_ok-after.ensures.hands in
    record {
      progress = part_step g.S.NameSink.seen g.S.NameSink.after t whole n m c.entries.rest.now c.in-Some-2.after.now c.args.sink.now c.entries.sink c.tell_entry.new.sink l c.entries.invariant.progress
          h.0 (h.1 ∙ ap front_of c.in-Some-2.is);
      same = c.in_ok-after.ensures.same_known ∙ c.entries.invariant.same;
    }

pub returns-clause-hands : goal.returns-clause-hands
returns-clause-hands g c =
    let t = entry_at (owned c.args.owner) in
    let whole = times_at t c.in-Some.count c.in-Some.behind.now in
    let n = c.in-Some.count - c.entries._taken in
    let l : n ≡ 0 = omega arith in
    handed_as g.S.NameSink.seen g.S.NameSink.after g.S.NameSink.refuses front_of c.args.sink.now c.entries.sink (Ok (Some c.entries.rest)) whole (map_at (owned c.args.owner) c.args.bytes.now)
    (map_found (owned c.args.owner) c.args.bytes.now c.in-Some.behind.now c.in-Some.count c.in-Some.ensures)
    (parts_done g.S.NameSink.seen g.S.NameSink.after g.S.NameSink.refuses front_of t whole n c.entries.rest.now c.args.sink.now c.entries.sink (Some c.entries.rest) l c.entries.invariant.progress refl)
