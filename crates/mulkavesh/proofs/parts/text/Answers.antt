use Rattle.std.proofs.Common.{refl}
use Rattle.walrus_sections.specs.PartList.{part_record}
use Rattle.mulkavesh.specs.Sections.{part_line}
use Rattle.mulkavesh.proofs.Lines.{all_lines, line_more}
use Rattle.mulkavesh.proofs.parts.text.Goals as goal

pub loop-part-preserved : goal.loop-part-preserved
loop-part-preserved c =
    line_more part_line part_record c.args.parts.now c.loop-part.part-index _ _ c.loop-part-test.true refl _ _ c.loop-part.invariant c.in_ok-add_line.ensures

pub returns : goal.returns
returns c = all_lines part_line part_record c.args.parts.now c.loop-part.part-index c.loop-part-test.false _ c.loop-part.invariant
