use Rattle.std.proofs.Common.{refl}
use Rattle.walrus_sections.specs.Sections.{piece_record}
use Rattle.mulkavesh.specs.Sections.{section_line}
use Rattle.mulkavesh.proofs.Lines.{all_lines, line_more}
use Rattle.mulkavesh.proofs.sections.text.Goals as goal

pub loop-piece-preserved : goal.loop-piece-preserved
loop-piece-preserved c =
    line_more section_line piece_record c.args.pieces.now c.loop-piece.piece-index _ _ c.loop-piece-test.true refl _ _ c.loop-piece.invariant c.in_ok-add_line.ensures

pub returns : goal.returns
returns c = all_lines section_line piece_record c.args.pieces.now c.loop-piece.piece-index c.loop-piece-test.false _ c.loop-piece.invariant
