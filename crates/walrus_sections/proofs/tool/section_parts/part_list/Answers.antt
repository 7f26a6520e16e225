use Rattle.std.proofs.Common.{List, map, subst, sym}
use Rattle.walrus_sections.specs.PartList.{HasParts, RawPart, part_record}
use Rattle.walrus_sections.proofs.PartListLemmas.{answers_list}
use Rattle.walrus_sections.proofs.tool.section_parts.part_list.Goals as goal

pub returns : goal.returns
returns c =
    answers_list c.args.bytes.now (map part_record c.deref.result.now)
    (subst (λ (ps : List RawPart). HasParts c.args.bytes.now (map part_record ps)) (sym c.deref.ensures.value) c.in_ok-parts.ensures)
    c.told.result c.told.ensures.value c.told.ensures.fits c.told.ensures.refused
