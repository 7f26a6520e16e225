use Rattle.walrus_sections.specs.Fits.{Fits}
use Rattle.walrus_sections.proofs.LookUps.{none_is}
use Rattle.walrus_sections.proofs.name_lists.fits_any.Goals as goal

pub returns : goal.returns
returns c = none_is (Fits c.args.name.now) c.args.all.now c.texts.text-index c.texts-test.false c.texts.invariant
