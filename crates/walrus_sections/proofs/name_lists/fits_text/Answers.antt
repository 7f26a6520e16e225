use Rattle.std.proofs.Common.{◌∙◌, sym}
use Rattle.walrus_sections.specs.NameLists.{texts}
use Rattle.walrus_sections.proofs.LookUps.{plain_text}
use Rattle.walrus_sections.proofs.name_lists.fits_text.Goals as goal

pub returns-then-not-has_star : goal.returns-then-not-has_star
returns-then-not-has_star c = plain_text (texts c.args.all.now) c.args.name.now c.is_among.result (sym c.has_star.ensures ∙ c.if-not-has_star.true) c.is_among.ensures
