use Rattle.std.proofs.Common.{◌≡◌, ◌+◌, ◌++◌, map, drop}
use Rattle.walrus_base.specs.Id.{place}
use Rattle.walrus_functions.specs.Marked.{marked}
use Rattle.walrus_functions.proofs.marks.marked_locals.Given as goal

-- the locals so far, and those of the places that are left
abbrev pub invariant-places : goal.invariant-places
invariant-places l = map place l.named.items ++ marked (l.first + l.offset) (drop l.offset l.marks) ≡ marked l.first l.marks
