use Rattle.walrus.specs.Items.Exports.{exports}
use Rattle.walrus_sections.specs.Choice.{choices_seen}
use Rattle.walrus_tools.specs.KeptExports.{export_names}
use Rattle.walrus_tools.proofs.NamedExports.{tells_sorted, tells_standing}
use Rattle.walrus_tools.proofs.named_exports.unfit_number.Goals as goal

pub returns : goal.returns
returns c =
    tells_sorted c.in_ok-names.names.items c.sort_unstable.new.self.items c.deref-2.result.now (export_names (exports c.args.all.now)) c.in_ok-names.ensures c.sort_unstable.ensures.permutation c.deref-2.ensures.value
    (choices_seen c.args.choices.now) c.first_unfit-2.result c.first_unfit-2.ensures

pub returns-then-are_few : goal.returns-then-are_few
returns-then-are_few c =
    tells_standing c.in_ok-names.names.items c.deref.result.now (export_names (exports c.args.all.now)) c.in_ok-names.ensures c.deref.ensures.value (choices_seen c.args.choices.now) c.first_unfit.result
    c.first_unfit.ensures
