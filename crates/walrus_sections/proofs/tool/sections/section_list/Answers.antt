use Rattle.std.proofs.Common.{false, length, map, refl, true}
use Rattle.wasm_frames.specs.Pieces.{piece_record}
use Rattle.walrus_sections.proofs.SectionLemmas.{answers}
use Rattle.walrus_sections.proofs.StripLemmas.{cut_found, whole_found}
use Rattle.walrus_sections.proofs.tool.sections.section_list.Goals as goal

pub returns-in-Whole : goal.returns-in-Whole
returns-in-Whole c =
    answers c.args.bytes.now true (length c.args.bytes.now) (map piece_record c.deref.result.now)
    (whole_found c.args.bytes.now c.in_ok-pieces.field-0 c.in-Whole.pieces c.deref.result.now c.in-Whole.is c.in_ok-pieces.ensures c.deref.ensures.value, refl)
    c.told.result c.told.ensures.value c.told.ensures.fits c.told.ensures.refused

pub returns-in-Until : goal.returns-in-Until
returns-in-Until c =
    answers c.args.bytes.now false c.in-Until.place (map piece_record c.deref-in-Until.result.now)
    (cut_found c.args.bytes.now c.in_ok-pieces.field-0 c.in-Until.pieces c.in-Until.place c.deref-in-Until.result.now c.in-Until.is c.in_ok-pieces.ensures c.deref-in-Until.ensures.value)
    c.told-in-Until.result c.told-in-Until.ensures.value c.told-in-Until.ensures.fits c.told-in-Until.ensures.refused
