use Rattle.std.proofs.Common.{◌≡◌, ◌-◌, length}
use Rattle.walrus_base.specs.TypesLeft.{types_left}
use Rattle.walrus_base.proofs.type_iter.TypeIterIterator.next.Given as goal

abbrev pub invariant-loop-slot : goal.invariant-loop-slot
invariant-loop-slot l = (l.self.places.now ≡ l.initial.self.places.now) × (types_left l.self ≡ types_left l.initial.self)

abbrev pub decreases-loop-slot : goal.decreases-loop-slot
decreases-loop-slot l = length l.self.places.now - l.self.place
