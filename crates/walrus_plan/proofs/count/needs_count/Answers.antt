use Rattle.std.proofs.Common.{sym, ◌∙◌}
use Rattle.std.proofs.lemmas.Bool.{false≢true}
use Rattle.walrus_plan.proofs.Counted.{names_need, needs_names, needs_none, passive_needs}
use Rattle.walrus_plan.proofs.count.needs_count.Goals as goal

pub returns-then-has_passive : goal.returns-then-has_passive
returns-then-has_passive c = (λ is. passive_needs c.args.parts (sym c.has_passive.ensures ∙ is), λ h. c.if-has_passive.true)

pub returns-else-has_passive : goal.returns-else-has_passive
returns-else-has_passive c = (
  λ is. names_need c.args.parts (sym c.has_data_names.ensures ∙ is),
  λ h. c.has_data_names.ensures ∙ needs_names c.args.parts _ (sym c.has_passive.ensures) c.if-has_passive.false h,
)

pub returns-then-not-has_segments : goal.returns-then-not-has_segments
returns-then-not-has_segments c = (λ is. absurd (false≢true is), λ h. absurd (needs_none c.args.parts (c.has_segments.ensures c.if-not-has_segments.true) c.requires.there h))
