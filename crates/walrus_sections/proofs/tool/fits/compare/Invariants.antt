use Rattle.std.proofs.Common.{length}
use Rattle.walrus_sections.proofs.Stars.{Along}
use Rattle.walrus_sections.proofs.tool.fits.compare.Given as goal

-- what is left of both fits where they fit
abbrev pub invariant-parts : goal.invariant-parts
invariant-parts l = Along l.name l.text l.behind l.left

-- the bytes of the name that are left
abbrev pub decreases-parts : goal.decreases-parts
decreases-parts l = length l.behind
