use Rattle.std.proofs.Common.{false, refl}
use Rattle.walrus.specs.Items.Imports.{imports}
use Rattle.walrus_sections.specs.Choice.{choices_seen}
use Rattle.walrus_tools.proofs.ChosenImports.{chosen_marked, chosen_none}
use Rattle.walrus_tools.proofs.import_choice.chosen_imports.Goals as goal

pub returns-then-not-marking : goal.returns-then-not-marking
returns-then-not-marking c =
    chosen_none (choices_seen c.args.modules.now) (choices_seen c.args.names.now) (imports c.args.all.now) (record { marks = c.in_ok-new.field-0; is_met = false }) c.mark_all_chosen.new.marking c.mark_all_chosen.ensures
    refl c.in_ok-new.ensures.none c.if-not-marking.true

pub returns : goal.returns
returns c =
    chosen_marked (choices_seen c.args.modules.now) (choices_seen c.args.names.now) (imports c.args.all.now) (record { marks = c.in_ok-new.field-0; is_met = false }) c.mark_all_chosen.new.marking c.mark_all_chosen.ensures
    refl c.in_ok-new.ensures.none c.if-not-marking.false
