use Rattle.std.proofs.Common.{◌<◌, ◌≤◌, ◌∙◌, ℕ, List, length, subst, sym, arith}
use Rattle.std.proofs.lemmas.Result.{err_from_is_err_and}
use Rattle.walrus.specs.Items.Exports.{exports}
use Rattle.walrus.specs.Items.Functions.{functions}
use Rattle.walrus_tools.specs.MarkSteps.{Adds, RefusesText}
use Rattle.walrus_tools.specs.FunctionMeaning.{Means, MeansBodies, texts}
use Rattle.walrus_tools.proofs.MeantTexts.{as_many, text_at, texts_begin, texts_end, texts_more, texts_refused}
use Rattle.walrus_tools.proofs.function_meaning.marks_of.Goals as goal

pub texts-init : goal.texts-init
texts-init c =
    texts_begin (functions c.args.all.now) (exports c.args.exported.now) (texts c.args.meant.now) c.in_ok-new.field-0 c.in_ok-new.ensures.none
    (c.in_ok-new.ensures.places ∙ c.index.ensures ∙ c.next_id.ensures)

pub returns-in_err-mark_text : goal.returns-in_err-mark_text
returns-in_err-mark_text c =
    let fs = functions c.args.all.now in
    let es = exports c.args.exported.now in
    let all = texts c.args.meant.now in
    let many = as_many c.args.meant.now in
    let lt : c.texts.text-index < length all = omega (arith, c.texts-test.true, many) in
    let p = err_from_is_err_and c.from_residual-in_err-mark_text.result c.from_residual-in_err-mark_text.ensures.1 in
    rw (p.1, p.2) (texts_refused fs es all c.texts.text-index lt c.texts.marking.marks c.texts.invariant _
    (subst (λ (t : List ℕ). RefusesText fs es t c.in_err-mark_text.field-0.0) (sym (text_at c.args.meant.now c.texts.text-index _ c.texts-test.true)) c.in_err-mark_text.ensures))

pub texts-preserved : goal.texts-preserved
texts-preserved c =
    let fs = functions c.args.all.now in
    let es = exports c.args.exported.now in
    let all = texts c.args.meant.now in
    let many = as_many c.args.meant.now in
    let lt : c.texts.text-index < length all = omega (arith, c.texts-test.true, many) in
    texts_more fs es all c.texts.text-index lt c.texts.marking.marks c.mark_text.new.marking.marks c.texts.invariant
    (subst (λ (t : List ℕ). Adds (Means fs es t) c.texts.marking.marks c.mark_text.new.marking.marks × MeansBodies fs es t) (sym (text_at c.args.meant.now c.texts.text-index _ c.texts-test.true)) c.in_ok-mark_text.ensures)

pub returns : goal.returns
returns c =
    let many = as_many c.args.meant.now in
    let le : length (texts c.args.meant.now) ≤ c.texts.text-index = omega (arith, c.texts-test.false, many) in
    texts_end (functions c.args.all.now) (exports c.args.exported.now) (texts c.args.meant.now) c.texts.text-index le c.texts.marking.marks c.texts.invariant
