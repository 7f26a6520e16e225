use Rattle.std.proofs.Common.{ap, map, ◌∙◌}
use Rattle.walrus_edits.specs.ItemSteps.{producer_told}
use Rattle.walrus_edits.proofs.TellSteps.{adds_same}
use Rattle.walrus_edits.proofs.producer_records.tell_producers.Goals as goal

pub returns : goal.returns
returns c = adds_same (Unit {0}) c.tell_all.result c.args.to.now.items c.tell_all.new.to.items _ _ (ap (map producer_told) c.deref.ensures.value ∙ c.in_ok-all.ensures) c.tell_all.ensures
