use Rattle.walrus_sections.proofs.Choosers.{second_says}
use Rattle.walrus_sections.proofs.chooser.fits_names.Goals as goal

pub returns-else-is_among : goal.returns-else-is_among
returns-else-is_among c =
    second_says c.args.names.now c.args.text.now c.deref.result.now c.deref-else-is_among.result.now c.is_among.result c.fits_some.result c.deref.ensures.value c.deref-else-is_among.ensures.value
    c.is_among.ensures c.if-is_among.false c.fits_some.ensures
