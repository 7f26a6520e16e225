use Rattle.std.proofs.Common.{take}
use Rattle.walrus_sections.proofs.ChoiceLemmas.{NoneSuits}
use Rattle.walrus_sections.proofs.choice.fits_one.Given as goal

-- none of those before does
abbrev pub invariant-choices : goal.invariant-choices
invariant-choices l = NoneSuits l.is_kept l.text (take l.choice-index l.choices)
