use Rattle.std.proofs.Common.{ℕ, List}
use Rattle.walrus_sections.specs.Fits.{Fits}
use Rattle.walrus_sections.proofs.LookUps.{none_is}
use Rattle.walrus_sections.proofs.chooser.fits_some.Goals as goal

pub returns : goal.returns
returns c = none_is (λ (name : List ℕ). Fits name c.args.text.now) c.args.names.now c.names.name-index c.names-test.false c.names.invariant
