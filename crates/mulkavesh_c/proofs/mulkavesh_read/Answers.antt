use Rattle.std.proofs.Common.{sym, ◌∙◌}
use Rattle.walrus_tools.specs.Wanted.{config_wanted}
use Rattle.walrus_tools.specs.WantedValue.{Wanted}
use Rattle.walrus_edits.specs.Items.{AnswersItems}
use Rattle.mulkavesh_c.specs.Answer.{Answer}
use Rattle.mulkavesh_c.proofs.AnswerLemmas.{gives_flagged}
use Rattle.mulkavesh_c.proofs.mulkavesh_read.Goals as goal

pub returns : goal.returns
returns c =
    gives_flagged (λ (w : Wanted) (r : Answer). AnswersItems (config_wanted w) c.args.input.now r) c.args.flags c.in-Some.wanted (sym c.in-Some.is ∙ c.wanted_by.ensures) c.items-made.result c.of.result c.of.ensures _ _ _ _ c.items-made.ensures c.put.ensures
