use Rattle.std.proofs.Common.{◌≡◌, subst, sym, ◌∙◌}
use Rattle.std.specs.Prelude.{Err, Ok}
use Rattle.walrus_sections.specs.Choice.{choices_seen}
use Rattle.walrus_tools.specs.Facade.{NotFound}
use Rattle.walrus_tools.specs.Wanted.{config_wanted}
use Rattle.mulkavesh_c.specs.Answer.{Answer}
use Rattle.mulkavesh_c.specs.ChosenRoots.{IsNumbered}
use Rattle.mulkavesh_c.proofs.ChoiceLemmas.{numbered_error, numbered_missing, numbered_same}
use Rattle.mulkavesh_c.proofs.choices.numbered.Goals as goal

pub returns-in-Ok : goal.returns-in-Ok
returns-in-Ok c =
    numbered_same (config_wanted c.args.wanted) c.args.input.now (choices_seen c.args.choices.now) c.args.answer c.of.result (c.of.ensures.0 ∙ sym c.in-Ok.is)
    (λ h. let wrong : ◌≡◌ {A = Answer} (Ok c.in-Ok.bytes) (Err NotFound) = sym c.in-Ok.is ∙ h in absurd cc)

pub returns-then-is_missing : goal.returns-then-is_missing
returns-then-is_missing c =
    subst (λ (r : Answer). IsNumbered (config_wanted c.args.wanted) c.args.input.now (choices_seen c.args.choices.now) r c.unfound.result) (sym c.in-Err.is)
    (numbered_missing (config_wanted c.args.wanted) c.args.input.now (choices_seen c.args.choices.now) c.in-Err.error (sym c.if-is_missing.ensures) c.unfound.result c.unfound.ensures)

pub returns : goal.returns
returns c =
    subst (λ (r : Answer). IsNumbered (config_wanted c.args.wanted) c.args.input.now (choices_seen c.args.choices.now) r c.of-2.result) (sym c.in-Err.is)
    (numbered_error (config_wanted c.args.wanted) c.args.input.now (choices_seen c.args.choices.now) c.in-Err.error (sym c.if-is_missing.ensures) c.of-2.result c.of-2.ensures.0)
