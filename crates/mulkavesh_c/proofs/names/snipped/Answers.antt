use Rattle.std.proofs.Common.{ap, ◌∙◌}
use Rattle.std.proofs.lemmas.Result.{err_from_is_err_and}
use Rattle.walrus_tools.specs.FunctionMeaning.{texts}
use Rattle.walrus_tools.specs.TrapEdit.{AnswersMeant}
use Rattle.walrus_tools.specs.Wanted.{config_wanted}
use Rattle.mulkavesh_c.proofs.ChoiceLemmas.{texts_answer, texts_lack}
use Rattle.mulkavesh_c.proofs.names.snipped.Goals as goal

pub returns-in_err-meant : goal.returns-in_err-meant
returns-in_err-meant c =
    let p = err_from_is_err_and c.from_residual-in_err-meant.result c.from_residual-in_err-meant.ensures.1 in
    rw (p.1, p.2)
    (texts_lack c.args.function.now c.in_ok-choices.choices.items c.deref.result.now c.deref.ensures.value c.in_ok-choices.ensures (AnswersMeant (config_wanted c.args.wanted) c.args.input.now) _ c.in_err-meant.ensures)

pub returns : goal.returns
returns c =
    texts_answer c.args.function.now c.in_ok-choices.choices.items c.deref.result.now c.deref.ensures.value c.in_ok-choices.ensures (texts c.deref-2.result.now) (ap texts c.deref-2.ensures.value ∙ c.in_ok-meant.ensures)
    (AnswersMeant (config_wanted c.args.wanted) c.args.input.now) c.snip_functions.result c.snip_functions.ensures
