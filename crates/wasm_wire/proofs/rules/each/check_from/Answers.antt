use Rattle.wasm_wire.proofs.Checked.{checks_same, from_mapped, from_unmapped}
use Rattle.wasm_wire.proofs.rules.each.check_from.Goals as goal

pub returns : goal.returns
returns g c =
    let R = g.R.NumberedRule.Holds c.args.rule.now in
    let v = g.R.NumberedRule.view in
    let xs = c.args.items.now in
    checks_same _ _ _ (from_mapped R v c.args.first xs) (from_unmapped R v c.args.first xs) c.check_each_from.ensures
