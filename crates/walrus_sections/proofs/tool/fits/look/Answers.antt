use Rattle.std.proofs.Common.{refl}
use Rattle.walrus_sections.proofs.Stars.{fits_all, on_differs}
use Rattle.walrus_sections.proofs.tool.fits.look.Goals as goal

pub returns-in-Some : goal.returns-in-Some
returns-in-Some c = on_differs c.args.name.now c.args.text.now c.in-Some.rest.now _ c.in-Differs.ensures c.in-Some.ensures.cases

pub returns-in-empty : goal.returns-in-empty
returns-in-empty c = (λ yes. fits_all c.args.name.now c.args.text.now c.in-empty.len_below, λ fits. refl)
