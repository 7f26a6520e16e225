use Rattle.std.proofs.Common.{◌≡◌, ℕ, ◌<◌, get_or}
use Rattle.std.specs.Global.{Vec}
use Rattle.wasm_entries.specs.declared.record.RawSub.{RawSub}
use Rattle.wasm_entries.specs.Record.{group}
use Rattle.wasm_wire.specs.Indices.{GroupRefers}
use Rattle.wasm_wire.specs.Gathering.{types_before}
use Rattle.wasm_wire.proofs.rules.types.check_each_group.Given as goal

abbrev pub invariant-loop-held : goal.invariant-loop-held
invariant-loop-held l = record {
  first : l.first ≡ types_before l.groups l.held-index;
  hold : (k : ℕ) (d : Vec RawSub) → k < l.held-index → GroupRefers (types_before l.groups k) (group (get_or l.groups k d));
}
