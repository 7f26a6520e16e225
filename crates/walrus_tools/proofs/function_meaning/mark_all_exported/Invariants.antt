use Rattle.std.proofs.Common.{◌≡◌, length}
use Rattle.walrus.specs.Items.Exports.{exports}
use Rattle.walrus.specs.Items.Functions.{functions}
use Rattle.walrus_tools.specs.MarkSteps.{IsExported, Meets}
use Rattle.walrus_tools.proofs.MarkLemmas.{Below}
use Rattle.walrus_tools.proofs.function_meaning.mark_all_exported.Given as goal

-- what the exports at the places so far bring out is marked
abbrev pub invariant-places : goal.invariant-places
invariant-places l = Meets (Below (IsExported l.name (functions l.all) (exports l.exported)) l.at) l.initial.marking l.marking × (l.at-end ≡ length (exports l.exported))
