use Rattle.std.proofs.Common.{◌↔◌, ◌+◌, length}
use Rattle.walrus_sections.specs.Fits.{FitsBehind}
use Rattle.walrus_sections.proofs.tool.fits.fits_behind_star.Given as goal

-- the smaller question has the same answer
abbrev pub invariant-turns : goal.invariant-turns
invariant-turns l = FitsBehind l.name l.text ↔ FitsBehind l.behind l.left

-- the bytes that are left
abbrev pub decreases-turns : goal.decreases-turns
decreases-turns l = length l.behind + length l.left
