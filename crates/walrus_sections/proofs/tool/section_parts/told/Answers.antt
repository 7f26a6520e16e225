use Rattle.std.proofs.Common.{flat_map, map, refl}
use Rattle.std.proofs.lemmas.Result.{err_from_is_err_and}
use Rattle.walrus_sections.specs.PartList.{part_bytes, part_record}
use Rattle.walrus_sections.proofs.PartListLemmas.{long_end, long_parts, parts_fit}
use Rattle.walrus_sections.proofs.ToldRows.{list_joined}
use Rattle.walrus_sections.proofs.tool.section_parts.told.Goals as goal

pub returns-in_err-end-clause-refused : goal.returns-in_err-end-clause-refused
returns-in_err-end-clause-refused c =
    let p = err_from_is_err_and c.from_residual.result c.from_residual.ensures.1 in
    rw (p.1, p.2) (long_end c.args.place (map part_record c.args.parts.now) _ c.in_err-end.ensures.refused)

pub returns-in_err-add_parts-clause-refused : goal.returns-in_err-add_parts-clause-refused
returns-in_err-add_parts-clause-refused c =
    let p = err_from_is_err_and c.from_residual-in_err-add_parts.result c.from_residual-in_err-add_parts.ensures.1 in
    rw (p.1, p.2) (long_parts c.args.place (map part_record c.args.parts.now) _ c.in_err-add_parts.ensures.refused)

pub returns-clause-value : goal.returns-clause-value
returns-clause-value c =
    list_joined 1 c.args.place (flat_map part_bytes (map part_record c.args.parts.now)) 1 c.in_ok-end.end refl c.in_ok-end.ensures.value _ _ _ _
    c.new-list.ensures.items c.in_ok-push.ensures.items c.in_ok-add_number.ensures c.in_ok-add_parts.ensures.value

pub returns-clause-fits : goal.returns-clause-fits
returns-clause-fits c = parts_fit c.args.place (map part_record c.args.parts.now) c.in_ok-end.ensures.fits c.in_ok-add_parts.ensures.fits
