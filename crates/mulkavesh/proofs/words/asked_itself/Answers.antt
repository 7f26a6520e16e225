use Rattle.std.proofs.Common.{sym, ◌∙◌, inl, inr, ⊎_elim}
use Rattle.mulkavesh.proofs.Itself.{told_version}
use Rattle.mulkavesh.proofs.words.asked_itself.Goals as goal

pub returns-in-text : goal.returns-in-text
returns-in-text c = told_version _ _ c.alone.result (⊎_elim (λ e. inl (sym c.as_str.ensures.value ∙ e)) (λ e. inr (sym c.as_str.ensures.value ∙ e)) c.in-text.is) c.alone.ensures
