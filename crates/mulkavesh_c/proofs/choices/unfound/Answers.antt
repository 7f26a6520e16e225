use Rattle.std.proofs.Common.{ℕ, ap, inl, refl, subst, sym, ◌∙◌}
use Rattle.std.specs.Prelude.{unwrap_or}
use Rattle.std.proofs.lemmas.List.{length-map}
use Rattle.walrus_sections.specs.Choice.{choice_seen, choices_seen}
use Rattle.walrus_tools.specs.ChosenModule.{AnswersUnfit}
use Rattle.walrus_tools.specs.Wanted.{config_wanted}
use Rattle.mulkavesh_c.proofs.ChoiceLemmas.{numbered_refused, unfit_number}
use Rattle.mulkavesh_c.proofs.choices.unfound.Goals as goal

pub returns-in-Ok : goal.returns-in-Ok
returns-in-Ok c = record {
  answers = inl refl;
  numbers = λ h. unfit_number (config_wanted c.args.wanted) c.args.input.now (choices_seen c.args.choices.now) c.in-Ok.found c.in-Ok.ensures _ (c.unwrap_or.ensures ∙ ap (λ (n : ℕ). unwrap_or c.in-Ok.found n) (sym (length-map c.args.choices.now choice_seen)));
}

pub returns-in-Err : goal.returns-in-Err
returns-in-Err c = numbered_refused (config_wanted c.args.wanted) c.args.input.now (choices_seen c.args.choices.now) _ c.in-Err.error c.of.result c.of.ensures
    (subst (AnswersUnfit (config_wanted c.args.wanted) c.args.input.now (choices_seen c.args.choices.now)) c.in-Err.is c.unfit.ensures)
