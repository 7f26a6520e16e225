use Rattle.std.proofs.Common.{Bool, refl, sym, ◌∙◌}
use Rattle.walrus_tools.specs.Wanted.{config_wanted}
use Rattle.walrus_tools.specs.WantedValue.{Wanted}
use Rattle.walrus_edits.specs.Edited.{AnswersEdit}
use Rattle.mulkavesh_c.specs.Flags.{is_known_of_edits, wanted}
use Rattle.mulkavesh_c.proofs.AnswerLemmas.{asks_none}
use Rattle.mulkavesh_c.proofs.EditLemmas.{gives_asked, refuses_asked, unknown_edits}
use Rattle.mulkavesh_c.proofs.mulkavesh_edit.Goals as goal

pub returns-in_default : goal.returns-in_default
returns-in_default c =
    unknown_edits _ _ _ _ _ _ (λ known. asks_none (is_known_of_edits c.args.flags) (wanted c.args.flags) (sym c.in_default.is ∙ c.edit_wanted_by.ensures) known) c.refused.ensures.status refl c.refused.ensures.told

pub returns-in-Ok : goal.returns-in-Ok
returns-in-Ok c =
    gives_asked (λ (w : Wanted) (gc : Bool). AnswersEdit (config_wanted w) gc c.args.input.now c.args.edits.now) c.args.flags c.in-Some.wanted c.collects.result (sym c.in-Some.is ∙ c.edit_wanted_by.ensures) c.collects.ensures _ _ _ _
    c.in-Ok.bytes c.in-Ok.ensures c.of.result c.of.ensures c.put.ensures

pub returns-in-Err : goal.returns-in-Err
returns-in-Err c =
    refuses_asked (λ (w : Wanted) (gc : Bool). AnswersEdit (config_wanted w) gc c.args.input.now c.args.edits.now) c.args.flags c.in-Some.wanted c.collects.result (sym c.in-Some.is ∙ c.edit_wanted_by.ensures) c.collects.ensures _ _ _ _
    c.in-Err.refusal c.in-Err.ensures c.refuse.ensures.status refl c.refuse.ensures.told
