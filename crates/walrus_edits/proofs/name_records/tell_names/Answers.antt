use Rattle.std.proofs.Common.{ap, map, ◌∙◌}
use Rattle.walrus_edits.specs.ItemSteps.{name_told}
use Rattle.walrus_edits.proofs.TellSteps.{adds_same}
use Rattle.walrus_edits.proofs.name_records.tell_names.Goals as goal

pub returns : goal.returns
returns c = adds_same (Unit {0}) c.tell_all.result c.args.to.now.items c.tell_all.new.to.items _ _ (ap (map name_told) c.deref.ensures.value ∙ c.in_ok-names.ensures) c.tell_all.ensures
