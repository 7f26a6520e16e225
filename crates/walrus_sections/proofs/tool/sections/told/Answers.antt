use Rattle.std.proofs.Common.{flat_map, map}
use Rattle.std.proofs.lemmas.Result.{err_from_is_err_and}
use Rattle.wasm_frames.specs.Pieces.{piece_record}
use Rattle.walrus_sections.specs.Sections.{bit, section_bytes}
use Rattle.walrus_sections.proofs.SectionLemmas.{list_fits, long_place, long_sections}
use Rattle.walrus_sections.proofs.ToldRows.{list_joined}
use Rattle.walrus_sections.proofs.tool.sections.told.Goals as goal

pub returns-in_err-end-clause-refused : goal.returns-in_err-end-clause-refused
returns-in_err-end-clause-refused c =
    let p = err_from_is_err_and c.from_residual.result c.from_residual.ensures.1 in
    rw (p.1, p.2) (long_place c.args.place (map piece_record c.args.pieces.now) _ c.in_err-end.ensures.refused)

pub returns-in_err-add_sections-clause-refused : goal.returns-in_err-add_sections-clause-refused
returns-in_err-add_sections-clause-refused c =
    let p = err_from_is_err_and c.from_residual-in_err-add_sections.result c.from_residual-in_err-add_sections.ensures.1 in
    rw (p.1, p.2) (long_sections c.args.place (map piece_record c.args.pieces.now) _ c.in_err-add_sections.ensures.refused)

pub returns-clause-value : goal.returns-clause-value
returns-clause-value c =
    list_joined (bit c.args.is_whole) c.args.place (flat_map section_bytes (map piece_record c.args.pieces.now)) c.bit.result c.in_ok-end.end c.bit.ensures c.in_ok-end.ensures.value _ _ _ _
    c.new-list.ensures.items c.in_ok-push.ensures.items c.in_ok-add_number.ensures c.in_ok-add_sections.ensures.value

pub returns-clause-fits : goal.returns-clause-fits
returns-clause-fits c = list_fits c.args.place (map piece_record c.args.pieces.now) c.in_ok-end.ensures.fits c.in_ok-add_sections.ensures.fits
