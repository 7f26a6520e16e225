use Rattle.std.proofs.Common.{take}
use Rattle.walrus_sections.proofs.Choosers.{NoneHeld}
use Rattle.walrus_sections.proofs.chooser.has_none_kept.Given as goal

-- none of those before is
abbrev pub invariant-choices : goal.invariant-choices
invariant-choices l = NoneHeld (take l.choice-index l.choices)
