use Rattle.wasm_wire.proofs.Checked.{checks_same, all_mapped, all_unmapped}
use Rattle.wasm_wire.proofs.rules.each.check_all.Goals as goal

pub returns-clause-viewed : goal.returns-clause-viewed
returns-clause-viewed g c =
    let P = g.R.Rule.Holds c.args.rule.now in
    let v = g.R.Rule.view in
    let xs = c.args.items.now in
    checks_same _ _ _ (all_mapped P v xs) (all_unmapped P v xs) c.check_each.ensures
