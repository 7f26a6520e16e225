use Rattle.std.proofs.Common.{◌≡◌, ◌++◌, map, take}
use Rattle.wasm_entries.specs.Record.{Table, table_entry}
use Rattle.wasm_wire.proofs.rules.declared.append_tables.Given as goal

abbrev pub invariant-loop-table : goal.invariant-loop-table
invariant-loop-table l = l.all.items ≡ l.fn.to.items ++ map (λ (x : Table). x.ty) (map table_entry (take l.table-index l.own))
