use Rattle.std.proofs.Common.{◌≡◌, length}
use Rattle.walrus.specs.Items.Imports.{imports}
use Rattle.walrus_sections.specs.Choice.{choices_seen}
use Rattle.walrus_tools.specs.MarkSteps.{Meets}
use Rattle.walrus_tools.specs.StubMatching.{ChosenAt}
use Rattle.walrus_tools.proofs.MarkLemmas.{Below}
use Rattle.walrus_tools.proofs.import_choice.mark_all_chosen.Given as goal

-- the chosen imports at the places so far are marked
abbrev pub invariant-places : goal.invariant-places
invariant-places l =
    Meets (Below (ChosenAt (choices_seen l.modules) (choices_seen l.names) (imports l.all)) l.at) l.initial.marking l.marking
    × (l.at-end ≡ length (imports l.all))
