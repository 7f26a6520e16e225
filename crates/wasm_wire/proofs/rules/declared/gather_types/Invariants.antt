use Rattle.std.proofs.Common.{Bor, ◌≡◌, map, take}
use Rattle.std.specs.Prelude.{flat_map}
use Rattle.wasm_entries.specs.declared.record.RawSub.{RawSub}
use Rattle.wasm_entries.specs.Record.{Group, sub, group}
use Rattle.wasm_wire.proofs.rules.declared.gather_types.Given as goal

abbrev pub invariant-loop-held : goal.invariant-loop-held
invariant-loop-held l = map (λ (s : Bor RawSub). sub s.now) l.found.items ≡ flat_map (λ (g : Group). g) (map group (take l.held-index l.groups))
