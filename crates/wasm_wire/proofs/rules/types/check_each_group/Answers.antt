use Rattle.std.proofs.Common.{ℕ, length, ap, subst, arith}
use Rattle.std.specs.Global.{Vec}
use Rattle.wasm_entries.specs.declared.record.RawSub.{RawSub}
use Rattle.wasm_entries.specs.Record.{group}
use Rattle.wasm_wire.specs.Indices.{GroupRefers}
use Rattle.wasm_wire.specs.Gathering.{types_before}
use Rattle.wasm_wire.proofs.Checked.{before_more, each_more}
use Rattle.wasm_wire.proofs.rules.types.check_each_group.Goals as goal

pub loop-held-preserved : goal.loop-held-preserved
loop-held-preserved c =
    let gs = c.args.groups.now in
    let i = c.loop-held.held-index in
    let x = c.held-item.result in
    let here : GroupRefers (types_before gs i) (group x) = subst (λ (n : ℕ). GroupRefers n (group x)) c.loop-held.invariant.first c.in_ok-check_group.ensures in
    record {
      first = omega (arith, c.in_ok-first.ensures, c.len.ensures, c.loop-held.invariant.first, before_more gs i x c.loop-held-test.true, ap (λ (g : Vec RawSub). length g.items) c.held-item.is);
      hold = each_more (λ (k : ℕ) (g : Vec RawSub). GroupRefers (types_before gs k) (group g)) gs i x c.held-item.is c.loop-held-test.true c.loop-held.invariant.hold here;
    }
