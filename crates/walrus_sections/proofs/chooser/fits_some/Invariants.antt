use Rattle.std.proofs.Common.{All, take}
use Rattle.walrus_sections.specs.Fits.{Fits}
use Rattle.walrus_sections.proofs.chooser.fits_some.Given as goal

-- none of those before does
abbrev pub invariant-names : goal.invariant-names
invariant-names l = All (λ name. Fits name.now l.text → ⊥) (take l.name-index l.names)
