use Rattle.std.proofs.Common.{append-nil, arith, sym}
use Rattle.std.proofs.lemmas.Result.{err_from_is_err_and}
use Rattle.wasm_frames.specs.Pieces.{piece_record}
use Rattle.walrus_sections.specs.Sections.{IsLongSection, section_bytes}
use Rattle.walrus_sections.proofs.ToldRows.{none_long, none_more, one_long, row_more, rows_all}
use Rattle.walrus_sections.proofs.tool.sections.add_sections.Goals as goal

pub loop-piece-init : goal.loop-piece-init
loop-piece-init c = (sym (append-nil c.args.to.now.items), λ k d below. absurd (omega (arith, below)))

pub loop-piece-preserved : goal.loop-piece-preserved
loop-piece-preserved c = (
  row_more piece_record section_bytes c.args.pieces.now c.loop-piece.piece-index _ c.loop-piece-test.true _ _ _ c.loop-piece.invariant.0 c.in_ok-add_section.ensures.value,
  none_more piece_record IsLongSection c.args.pieces.now c.loop-piece.piece-index _ c.loop-piece-test.true c.loop-piece.invariant.1 c.in_ok-add_section.ensures.fits,
)

pub returns-in_err-add_section-clause-refused : goal.returns-in_err-add_section-clause-refused
returns-in_err-add_section-clause-refused c =
    let p = err_from_is_err_and c.from_residual.result c.from_residual.ensures.1 in
    rw (p.1, p.2) (one_long piece_record IsLongSection c.args.pieces.now c.loop-piece.piece-index _ c.loop-piece-test.true _ c.in_err-add_section.ensures.refused)

pub returns-clause-value : goal.returns-clause-value
returns-clause-value c = rows_all piece_record section_bytes c.args.pieces.now c.loop-piece.piece-index c.loop-piece-test.false _ _ c.loop-piece.invariant.0

pub returns-clause-fits : goal.returns-clause-fits
returns-clause-fits c = none_long piece_record IsLongSection c.args.pieces.now c.loop-piece.piece-index c.loop-piece-test.false c.loop-piece.invariant.1
