use Rattle.std.proofs.Common.{take}
use Rattle.walrus_sections.proofs.StripLemmas.{NoneFits}
use Rattle.walrus_sections.proofs.tool.strip.fits_section.Given as goal

-- it fits the name of none of those before
abbrev pub invariant-loop-piece : goal.invariant-loop-piece
invariant-loop-piece l = NoneFits l.choice (take l.piece-index l.pieces)
