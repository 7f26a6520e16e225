use Rattle.std.proofs.Common.{ap, ◌∙◌, sym}
use Rattle.std.specs.Prelude.{find}
use Rattle.walrus.specs.Items.Exports.{export_entries_left, is_named}
use Rattle.walrus_examples.proofs.examples.rename_export.find.Goals as goal

pub loop-at-init : goal.loop-at-init
loop-at-init c = (tt, tt, sym (ap (λ es. find (λ e. is_named c.args.name.now e.1) es) (ap export_entries_left c.into_iter-at-iterator.ensures.into_iter_gives ∙ c.iter_entries-at-items.ensures)))
