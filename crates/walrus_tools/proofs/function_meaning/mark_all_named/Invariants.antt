use Rattle.std.proofs.Common.{◌≡◌, length}
use Rattle.walrus.specs.Items.Functions.{functions}
use Rattle.walrus_tools.specs.MarkSteps.{IsNamed, Meets}
use Rattle.walrus_tools.proofs.MarkLemmas.{Below}
use Rattle.walrus_tools.proofs.function_meaning.mark_all_named.Given as goal

-- the functions at the places so far are marked
abbrev pub invariant-places : goal.invariant-places
invariant-places l = Meets (Below (IsNamed l.name (functions l.all)) l.at) l.initial.marking l.marking × (l.at-end ≡ length (functions l.all))
