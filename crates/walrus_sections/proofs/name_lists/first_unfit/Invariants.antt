use Rattle.std.proofs.Common.{take}
use Rattle.walrus_sections.specs.NameLists.{texts}
use Rattle.walrus_sections.proofs.LookUps.{EachMet}
use Rattle.walrus_sections.proofs.name_lists.first_unfit.Given as goal

-- each one before fits a text
abbrev pub invariant-choices : goal.invariant-choices
invariant-choices l = EachMet (texts l.all) (take l.number l.choices)
