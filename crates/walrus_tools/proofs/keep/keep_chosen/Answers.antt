use Rattle.std.proofs.Common.{◌≡◌, false, refl, rules}
use Rattle.std.specs.Prelude.{is_some}
use Rattle.walrus.specs.Items.Exports.{exports}
use Rattle.walrus_sections.specs.Choice.{choices_seen}
use Rattle.walrus_tools.specs.KeptExports.{export_names}
use Rattle.walrus_tools.proofs.ChosenEnds.{each_fit, keeps_chosen}
use Rattle.walrus_tools.proofs.keep.keep_chosen.Goals as goal

pub returns : goal.returns
returns g c =
    let old = exports c.args.module.now.exports in
    let choices = choices_seen c.args.choices.now in
    let none : is_some c.in_ok-unfit_number.field-0 ≡ false = search rules in
    record {
      keeps = keeps_chosen choices c.in_ok-chooser.chooser old (exports c.drop_others.new.all) c.in_ok-chooser.ensures (each_fit (export_names old) choices c.in_ok-unfit_number.field-0 c.in_ok-unfit_number.ensures none) c.drop_others.ensures;
      others = refl;
    }
