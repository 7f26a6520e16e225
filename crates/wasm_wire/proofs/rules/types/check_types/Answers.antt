use Rattle.std.proofs.Common.{◌≡◌, List, map, subst}
use Rattle.std.specs.Global.{Vec}
use Rattle.wasm_entries.specs.declared.record.RawSub.{RawSub}
use Rattle.wasm_entries.specs.Record.{group}
use Rattle.wasm_wire.specs.Indices.{TypesRefer}
use Rattle.wasm_wire.specs.Rules.{Checks}
use Rattle.wasm_wire.proofs.rules.types.check_types.Goals as goal

pub returns : goal.returns
returns c =
    let v = c.deref.ensures.value in
    let e : c.deref.result.now ≡ c.args.raw.now.types.items = cc in
    subst (λ (gs : List (Vec RawSub)). Checks c.check_groups.result (TypesRefer (map group gs))) e c.check_groups.ensures
