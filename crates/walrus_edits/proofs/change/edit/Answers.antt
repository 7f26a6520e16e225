use Rattle.std.proofs.Common.{ap, map, refl, ◌∙◌, subst}
use Rattle.std.specs.Prelude.{Err}
use Rattle.std.proofs.lemmas.Result.{err_from_is_err_and}
use Rattle.walrus.specs.Modules.Customs.{sections}
use Rattle.walrus.specs.Modules.Entry.{raw_in}
use Rattle.walrus.specs.Modules.Flags.{Flags, config_of, defaults, flags, with_choices}
use Rattle.walrus_edits.specs.Edited.{AnswersEdit}
use Rattle.walrus_edits.specs.declared.refusal.Refusal.TheVariants.{Edit, Input}
use Rattle.walrus_edits.proofs.Assembled.{behind_all, input_refused, memory_refused, next_refused, whole}
use Rattle.walrus_edits.proofs.change.edit.Goals as goal

pub returns-in_err-module : goal.returns-in_err-module
returns-in_err-module c =
    let p = err_from_is_err_and c.from_residual.result c.from_residual.ensures.1 in
    rw (p.1, p.2) (subst (λ (f : Flags). AnswersEdit (config_of f) c.args.collects c.args.bytes.now c.args.edits.now (Err (Input c.in_err-module.field-0.0))) c.of_choices-config.ensures.value
    (input_refused (config_of (flags c.of_choices-config.result)) c.args.collects c.args.bytes.now c.args.edits.now _ c.in_err-module.ensures))

pub returns-in_err-customs : goal.returns-in_err-customs
returns-in_err-customs c =
    let p = err_from_is_err_and c.from_residual-in_err-customs.result c.from_residual-in_err-customs.ensures.1 in
    rw (p.1, p.2) (memory_refused _ c.args.collects c.args.bytes.now c.args.edits.now _ c.in_err-customs.ensures.fails)

pub returns-in_err-apply_all : goal.returns-in_err-apply_all
returns-in_err-apply_all c =
    let p = err_from_is_err_and c.from_residual-in_err-apply_all.result c.from_residual-in_err-apply_all.ensures.1 in
    let read = c.in_ok-module in
    let same = c.of_choices-config.ensures.value in
    let w = c.args.wanted in
    rw (p.1, p.2) (next_refused (with_choices w.names w.producers w.legacy defaults) c.args.bytes.now c.args.edits.now _ same _ read.module read.ensures.found read.ensures.taken
    read.ensures.kept.raws read.ensures.kept.are c.in_ok-customs.customs.items (c.in_ok-customs.ensures.taken ∙ ap (λ s. map raw_in (sections s)) c.replace-sections.ensures.value)
    c.args.collects _ _ c.in_err-apply_all.ensures)

pub returns-in_err-left : goal.returns-in_err-left
returns-in_err-left c =
    let p = err_from_is_err_and c.from_residual-in_err-left.result c.from_residual-in_err-left.ensures.1 in
    rw (p.1, p.2) (memory_refused _ c.args.collects c.args.bytes.now c.args.edits.now _ c.in_err-left.ensures.fails)

pub returns-in_err-kept : goal.returns-in_err-kept
returns-in_err-kept c =
    let p = err_from_is_err_and c.from_residual-in_err-kept.result c.from_residual-in_err-kept.ensures.1 in
    rw (p.1, p.2) (memory_refused _ c.args.collects c.args.bytes.now c.args.edits.now _ c.in_err-kept.ensures.fails)

pub returns-in_err-fresh : goal.returns-in_err-fresh
returns-in_err-fresh c =
    let p = err_from_is_err_and c.from_residual-in_err-fresh.result c.from_residual-in_err-fresh.ensures.1 in
    rw (p.1, p.2) (memory_refused _ c.args.collects c.args.bytes.now c.args.edits.now _ c.in_err-fresh.ensures.fails)

pub returns-in_err-output : goal.returns-in_err-output
returns-in_err-output c =
    let p = err_from_is_err_and c.from_residual-in_err-output.result c.from_residual-in_err-output.ensures.1 in
    let read = c.in_ok-module in
    let same = c.of_choices-config.ensures.value in
    let w = c.args.wanted in
    rw (p.1, p.2) (subst (λ r. AnswersEdit (config_of (with_choices w.names w.producers w.legacy defaults)) c.args.collects c.args.bytes.now c.args.edits.now (behind_all r)) c.in_err-output.was
    (whole (with_choices w.names w.producers w.legacy defaults) c.args.bytes.now c.args.edits.now _ same _ read.module read.ensures.found read.ensures.taken
    read.ensures.kept.raws read.ensures.kept.are c.in_ok-customs.customs.items (c.in_ok-customs.ensures.taken ∙ ap (λ s. map raw_in (sections s)) c.replace-sections.ensures.value)
    _ _ c.in_ok-apply_all.ensures _ _ refl c.in_ok-left.ensures.left _ c.in_ok-kept.ensures.kept c.put_contents-whole.ensures.holds
    (c.put_contents-whole.ensures.configured ∙ c.in_ok-fresh.ensures.configured ∙ same) refl c.args.collects c.written.result c.written.ensures))

pub returns : goal.returns
returns c =
    let read = c.in_ok-module in
    let same = c.of_choices-config.ensures.value in
    let w = c.args.wanted in
    subst (λ r. AnswersEdit (config_of (with_choices w.names w.producers w.legacy defaults)) c.args.collects c.args.bytes.now c.args.edits.now (behind_all r)) c.in_ok-output.was
    (whole (with_choices w.names w.producers w.legacy defaults) c.args.bytes.now c.args.edits.now _ same _ read.module read.ensures.found read.ensures.taken
    read.ensures.kept.raws read.ensures.kept.are c.in_ok-customs.customs.items (c.in_ok-customs.ensures.taken ∙ ap (λ s. map raw_in (sections s)) c.replace-sections.ensures.value)
    _ _ c.in_ok-apply_all.ensures _ _ refl c.in_ok-left.ensures.left _ c.in_ok-kept.ensures.kept c.put_contents-whole.ensures.holds
    (c.put_contents-whole.ensures.configured ∙ c.in_ok-fresh.ensures.configured ∙ same) refl c.args.collects c.written.result c.written.ensures)
