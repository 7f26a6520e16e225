use Rattle.walrus_base.specs.TypeDef.{places_between}
use Rattle.walrus_base.specs.TypeSlots.{cleared}
use Rattle.walrus_base.proofs.SlotLemmas.{cleared_step}
use Rattle.walrus_base.proofs.slots.clear.Goals as goal

pub loop-place-preserved : goal.loop-place-preserved
loop-place-preserved c =
    cleared_step c.loop-place.place c.args.end c.loop-place.places.items c.clear_place.new.places.items (cleared (places_between c.args.first c.args.end) c.args.places.now.items)
    c.loop-place-test.true c.loop-place.invariant c.clear_place.ensures
