use Rattle.std.proofs.Common.{append-nil, arith, sym}
use Rattle.std.proofs.lemmas.Result.{err_from_is_err_and}
use Rattle.walrus_sections.specs.PartList.{IsLongPart, part_bytes, part_record}
use Rattle.walrus_sections.proofs.ToldRows.{none_long, none_more, one_long, row_more, rows_all}
use Rattle.walrus_sections.proofs.tool.section_parts.add_parts.Goals as goal

pub loop-part-init : goal.loop-part-init
loop-part-init c = (sym (append-nil c.args.to.now.items), λ k d below. absurd (omega (arith, below)))

pub loop-part-preserved : goal.loop-part-preserved
loop-part-preserved c = (
  row_more part_record part_bytes c.args.parts.now c.loop-part.part-index _ c.loop-part-test.true _ _ _ c.loop-part.invariant.0 c.in_ok-add_part.ensures.value,
  none_more part_record IsLongPart c.args.parts.now c.loop-part.part-index _ c.loop-part-test.true c.loop-part.invariant.1 c.in_ok-add_part.ensures.fits,
)

pub returns-in_err-add_part-clause-refused : goal.returns-in_err-add_part-clause-refused
returns-in_err-add_part-clause-refused c =
    let p = err_from_is_err_and c.from_residual.result c.from_residual.ensures.1 in
    rw (p.1, p.2) (one_long part_record IsLongPart c.args.parts.now c.loop-part.part-index _ c.loop-part-test.true _ c.in_err-add_part.ensures.refused)

pub returns-clause-value : goal.returns-clause-value
returns-clause-value c = rows_all part_record part_bytes c.args.parts.now c.loop-part.part-index c.loop-part-test.false _ _ c.loop-part.invariant.0

pub returns-clause-fits : goal.returns-clause-fits
returns-clause-fits c = none_long part_record IsLongPart c.args.parts.now c.loop-part.part-index c.loop-part-test.false c.loop-part.invariant.1
