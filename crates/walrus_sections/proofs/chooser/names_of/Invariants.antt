use Rattle.std.proofs.Common.{◌↔◌, ℕ, List}
use Rattle.walrus_sections.specs.NameLists.{FitsIn}
use Rattle.walrus_sections.proofs.Choosers.{FitsSoFar}
use Rattle.walrus_sections.proofs.chooser.names_of.Given as goal

-- the lists fit what the choices of the kind fit, so far
abbrev pub invariant-choices : goal.invariant-choices
invariant-choices l = (text : List ℕ) → FitsIn l.plain.items l.starred.items text ↔ FitsSoFar l.choices l.is_kept text l.choice-index
