use Rattle.std.proofs.Common.{false, refl}
use Rattle.walrus.specs.Items.Exports.{exports}
use Rattle.walrus.specs.Items.Functions.{functions}
use Rattle.walrus_tools.proofs.MeantLemmas.{fitting_met, fitting_none}
use Rattle.walrus_tools.proofs.function_meaning.mark_fitting.Goals as goal

pub returns-then-not-marking : goal.returns-then-not-marking
returns-then-not-marking c =
    fitting_none c.args.name.now (functions c.args.all.now) (exports c.args.exported.now) (record (c.args.marking.now) { is_met = false }) c.mark_all_named.new.marking c.mark_all_exported.new.marking
    c.mark_all_named.ensures c.mark_all_exported.ensures refl c.if-not-marking.true

pub returns : goal.returns
returns c =
    fitting_met c.args.name.now (functions c.args.all.now) (exports c.args.exported.now) (record (c.args.marking.now) { is_met = false }) c.mark_all_named.new.marking c.mark_all_exported.new.marking
    c.mark_all_named.ensures c.mark_all_exported.ensures refl c.if-not-marking.false
