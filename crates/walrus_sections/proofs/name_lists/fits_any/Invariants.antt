use Rattle.std.proofs.Common.{All, take}
use Rattle.walrus_sections.specs.Fits.{Fits}
use Rattle.walrus_sections.proofs.name_lists.fits_any.Given as goal

-- it fits none of those before
abbrev pub invariant-texts : goal.invariant-texts
invariant-texts l = All (λ t. Fits l.name t.now → ⊥) (take l.text-index l.all)
