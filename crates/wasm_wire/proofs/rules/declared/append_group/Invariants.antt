use Rattle.std.proofs.Common.{Bor, ◌≡◌, ◌++◌, map, take}
use Rattle.wasm_entries.specs.declared.record.RawSub.{RawSub}
use Rattle.wasm_entries.specs.Record.{sub}
use Rattle.wasm_wire.proofs.rules.declared.append_group.Given as goal

abbrev pub invariant-loop-member : goal.invariant-loop-member
invariant-loop-member l = map (λ (s : Bor RawSub). sub s.now) l.all.items ≡ map (λ (s : Bor RawSub). sub s.now) l.fn.to.items ++ map sub (take l.member-index l.own.items)
