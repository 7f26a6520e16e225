use Rattle.std.proofs.Common.{◌≡◌, length}
use Rattle.walrus.specs.Items.Exports.{exports}
use Rattle.walrus_tools.specs.KeptExports.{KeepsUntil}
use Rattle.walrus_sections.specs.NameLists.{IsPicked}
use Rattle.walrus_tools.proofs.named_exports.drop_others.Given as goal

-- at the places so far those stay that are chosen
abbrev pub invariant-places : goal.invariant-places
invariant-places l =
    KeepsUntil (IsPicked l.chooser) l.at (exports l.initial.all) (exports l.all)
    × (l.at-end ≡ length (exports l.initial.all))
