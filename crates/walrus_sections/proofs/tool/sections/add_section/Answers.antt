use Rattle.std.proofs.Common.{ℕ, ap}
use Rattle.std.proofs.lemmas.Result.{IfErr-weaker, err_from_is_err_and, on_ok_weaker}
use Rattle.wasm_frames.specs.Pieces.{piece_record}
use Rattle.walrus_items.specs.declared.error.Error.{Error}
use Rattle.walrus_sections.proofs.SectionLemmas.{long_name, long_size, long_start, section_fits, section_joined}
use Rattle.walrus_sections.proofs.tool.sections.add_section.Goals as goal

pub returns-in_err-start-clause-refused : goal.returns-in_err-start-clause-refused
returns-in_err-start-clause-refused c =
    let p = err_from_is_err_and c.from_residual.result c.from_residual.ensures.1 in
    rw (p.1, p.2) (long_start (piece_record c.args.piece) _ c.in_err-start.ensures.refused)

pub returns-in_err-size-clause-refused : goal.returns-in_err-size-clause-refused
returns-in_err-size-clause-refused c =
    let p = err_from_is_err_and c.from_residual-in_err-size.result c.from_residual-in_err-size.ensures.1 in
    rw (p.1, p.2) (long_size (piece_record c.args.piece) _ c.in_err-size.ensures.refused)

pub returns-clause-value : goal.returns-clause-value
returns-clause-value c =
    on_ok_weaker c.add_name.result
    (section_joined (piece_record c.args.piece) c.in_ok-start.start c.in_ok-size.size c.counted-is_counted.result.0 c.counted-is_counted.result.1
    c.in_ok-start.ensures.value c.in_ok-size.ensures.value (ap (λ (p : ℕ × ℕ). p.0) c.counted-is_counted.ensures) (ap (λ (p : ℕ × ℕ). p.1) c.counted-is_counted.ensures)
    _ _ _ _ _ _ _ c.in_ok-push.ensures.items c.in_ok-push-2.ensures.items c.in_ok-add_number.ensures c.in_ok-add_number-2.ensures c.in_ok-add_number-3.ensures)
    c.add_name.ensures.value

pub returns-clause-fits : goal.returns-clause-fits
returns-clause-fits c =
    on_ok_weaker c.add_name.result (section_fits (piece_record c.args.piece) c.in_ok-start.ensures.fits c.in_ok-size.ensures.fits) c.add_name.ensures.fits

pub returns-clause-refused : goal.returns-clause-refused
returns-clause-refused c = IfErr-weaker c.add_name.result _ _ (λ (e : Error). long_name (piece_record c.args.piece) e) c.add_name.ensures.refused
