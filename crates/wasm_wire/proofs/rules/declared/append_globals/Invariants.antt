use Rattle.std.proofs.Common.{◌≡◌, ◌++◌, map, take}
use Rattle.wasm_entries.specs.Record.{Global, global_entry}
use Rattle.wasm_wire.proofs.rules.declared.append_globals.Given as goal

abbrev pub invariant-loop-global : goal.invariant-loop-global
invariant-loop-global l = l.all.items ≡ l.fn.to.items ++ map (λ (x : Global). x.ty) (map global_entry (take l.global-index l.own))
