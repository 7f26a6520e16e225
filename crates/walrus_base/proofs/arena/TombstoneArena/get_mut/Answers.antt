use Rattle.std.proofs.Common.{Some, ap, refl}
use Rattle.std.specs.Vec.{with_item as with_slot}
use Rattle.walrus_base.specs.Id.{place}
use Rattle.walrus_base.proofs.Found.{live_there}
use Rattle.walrus_base.proofs.arena.TombstoneArena.get_mut.Goals as goal

pub returns : goal.returns
returns g c =
    let arena = c.args.self.now in (
      (refl, λ w. ap (λ k. record arena { places = with_slot arena.places k (Some w) }) c.index.ensures),
      record { writes_back = tt; value = live_there arena.places.items (place c.args.id) c.index.result c.index_mut.result.now c.some_mut.result.now c.index.ensures c.requires c.index_mut.ensures.value c.some_mut.ensures.value },
    )
