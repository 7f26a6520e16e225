use Rattle.wasm_entries.specs.Record.{Global, global_entry}
use Rattle.wasm_wire.proofs.Gathered.{gathered_more, gathered_all}
use Rattle.wasm_wire.proofs.rules.declared.append_globals.Goals as goal

pub loop-global-preserved : goal.loop-global-preserved
loop-global-preserved c =
    gathered_more global_entry (λ (x : Global). x.ty) c.args.to.items _ _ c.args.own.now c.loop-global.global-index c.global-item.result c.loop-global-test.true c.global-item.is c.loop-global.invariant c.in_ok-push.ensures.items

pub returns : goal.returns
returns c = gathered_all global_entry (λ (x : Global). x.ty) c.args.to.items _ c.args.own.now c.loop-global.global-index c.loop-global-test.false c.loop-global.invariant
