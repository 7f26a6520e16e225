use Rattle.wasm_wire.proofs.Checked.{checks_same, each_group, all_groups}
use Rattle.wasm_wire.proofs.rules.types.check_groups.Goals as goal

pub returns : goal.returns
returns c = checks_same _ _ _ (each_group c.args.groups.now) (all_groups c.args.groups.now) c.check_each_group.ensures
