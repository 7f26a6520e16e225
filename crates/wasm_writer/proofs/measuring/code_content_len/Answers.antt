use Rattle.std.proofs.Common.{rules, ◌≡◌, ◌<◌, ap, ◌∙◌, length}
use Rattle.std.proofs.lemmas.Result.{err_from_is_err_and}
use Rattle.wasm_forms.specs.Spelling.{number_bytes}
use Rattle.wasm_writer.proofs.MeasuredSections.{bodies_over, bodies_told}
use Rattle.wasm_writer.proofs.measuring.code_content_len.Goals as goal

pub returns-in_err-bodies_len : goal.returns-in_err-bodies_len
returns-in_err-bodies_len c bodies same =
    let p = err_from_is_err_and c.from_residual.result c.from_residual.ensures.1 in
    rw (p.1, p.2) (bodies_over c.args.lengths.now bodies c.in_err-bodies_len.field-0.0 same c.in_err-bodies_len.ensures)

pub returns : goal.returns
returns c bodies same =
    let n : c.in-Ok.count ≡ length c.args.lengths.now = search rules in
    let l : c.in-Ok.count < 4294967296 = search rules in
    bodies_told c.args.lengths.now bodies c.in-Ok.count c.number_len.result c.in_ok-bodies_len.field-0 c.plus.result same n l (c.number_len.ensures.written ∙ ap (λ k. length (number_bytes k)) c.from.ensures) c.in_ok-bodies_len.ensures c.plus.ensures
