use Rattle.wasm_entries.specs.Record.{Table, table_entry}
use Rattle.wasm_wire.proofs.Gathered.{gathered_more, gathered_all}
use Rattle.wasm_wire.proofs.rules.declared.append_tables.Goals as goal

pub loop-table-preserved : goal.loop-table-preserved
loop-table-preserved c =
    gathered_more table_entry (λ (x : Table). x.ty) c.args.to.items _ _ c.args.own.now c.loop-table.table-index c.table-item.result c.loop-table-test.true c.table-item.is c.loop-table.invariant c.in_ok-push.ensures.items

pub returns : goal.returns
returns c = gathered_all table_entry (λ (x : Table). x.ty) c.args.to.items _ c.args.own.now c.loop-table.table-index c.loop-table-test.false c.loop-table.invariant
