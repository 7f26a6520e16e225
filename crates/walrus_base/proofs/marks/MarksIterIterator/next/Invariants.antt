use Rattle.std.proofs.Common.{◌≡◌, ◌-◌, length}
use Rattle.walrus_base.specs.Marks.{marks_left}
use Rattle.walrus_base.proofs.marks.MarksIterIterator.next.Given as goal

abbrev pub invariant-loop-mark : goal.invariant-loop-mark
invariant-loop-mark g l = (l.self.marks.now ≡ l.initial.self.marks.now) × (marks_left l.self ≡ marks_left l.initial.self)

abbrev pub decreases-loop-mark : goal.decreases-loop-mark
decreases-loop-mark g l = length l.self.marks.now - l.self.place
