use Rattle.std.proofs.Common.{map}
use Rattle.wasm_frames.specs.Pieces.{piece_record}
use Rattle.walrus_sections.specs.Choice.{choice_seen}
use Rattle.walrus_sections.proofs.StripLemmas.{met_fits, met_kept}
use Rattle.walrus_sections.proofs.tool.strip.is_met.Goals as goal

pub returns-then-choice : goal.returns-then-choice
returns-then-choice c = met_kept (map piece_record c.args.pieces.now) (choice_seen c.args.choice.now) c.if-choice.true

pub returns-else-choice : goal.returns-else-choice
returns-else-choice c = met_fits (map piece_record c.args.pieces.now) (choice_seen c.args.choice.now) c.fits_section.result c.if-choice.false c.fits_section.ensures
