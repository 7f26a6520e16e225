use Rattle.std.proofs.Common.{refl}
use Rattle.walrus_sections.proofs.ChoiceLemmas.{is_not}
use Rattle.walrus_sections.proofs.StripLemmas.{none_at_all, none_more, one_fits}
use Rattle.walrus_sections.proofs.tool.strip.fits_section.Goals as goal

pub returns-then-fits_name : goal.returns-then-fits_name
returns-then-fits_name c =
    (λ t. one_fits c.args.choice.now c.args.pieces.now c.loop-piece.piece-index _ c.loop-piece-test.true (c.fits_name.ensures.0 c.if-fits_name.true), λ f. refl)

pub loop-piece-preserved : goal.loop-piece-preserved
loop-piece-preserved c =
    none_more c.args.choice.now c.args.pieces.now c.loop-piece.piece-index _ c.loop-piece-test.true (is_not _ _ c.fits_name.ensures c.if-fits_name.false) c.loop-piece.invariant

pub returns : goal.returns
returns c = none_at_all c.args.choice.now c.args.pieces.now c.loop-piece.piece-index c.loop-piece-test.false c.loop-piece.invariant
