use Rattle.std.proofs.Common.{◌≡◌, ◌-◌, length}
use Rattle.walrus_base.specs.Arena.{entries_left}
use Rattle.walrus_base.proofs.arena.ArenaIterIterator.next.Given as goal

abbrev pub invariant-loop-slot : goal.invariant-loop-slot
invariant-loop-slot g l = (l.self.places.now ≡ l.initial.self.places.now) × (entries_left l.self ≡ entries_left l.initial.self)

abbrev pub decreases-loop-slot : goal.decreases-loop-slot
decreases-loop-slot g l = length l.self.places.now - l.self.place
