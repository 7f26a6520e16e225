use Rattle.std.proofs.Common.{◌≡◌}
use Rattle.walrus_base.specs.TypeDef.{places_between}
use Rattle.walrus_base.specs.TypeSlots.{cleared}
use Rattle.walrus_base.proofs.slots.clear.Given as goal

abbrev pub invariant-loop-place : goal.invariant-loop-place
invariant-loop-place l = cleared (places_between l.place l.end) l.places.items ≡ cleared (places_between l.first l.end) l.initial.places.items
