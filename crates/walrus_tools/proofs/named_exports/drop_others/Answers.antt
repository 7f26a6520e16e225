use Rattle.std.proofs.Common.{◌≤◌, length, arith}
use Rattle.walrus.specs.Items.Exports.{exports}
use Rattle.walrus_sections.specs.NameLists.{IsPicked}
use Rattle.walrus_tools.proofs.NamedExports.{ends}
use Rattle.walrus_tools.proofs.named_exports.drop_others.Goals as goal

pub returns : goal.returns
returns c =
    let past : length (exports c.args.all.now) ≤ c.places.at = omega (arith, c.places-test.false, c.places.invariant.1) in
    ends (IsPicked c.args.chooser.now) _ _ c.places.at past c.places.invariant.0
