use Rattle.std.proofs.Common.{List, map, take_all, ap, ◌∙◌, arith}
use Rattle.std.specs.Prelude.{flat_map}
use Rattle.std.specs.Global.{Vec}
use Rattle.wasm_entries.specs.declared.record.RawSub.{RawSub}
use Rattle.wasm_entries.specs.Record.{Group, group}
use Rattle.wasm_wire.proofs.rules.declared.gather_types.Goals as goal

pub returns : goal.returns
returns c =
    c.loop-held.invariant ∙ ap (λ (l : List (Vec RawSub)). flat_map (λ (g : Group). g) (map group l)) (take_all c.loop-held.held-index c.args.groups.now (omega arith))
