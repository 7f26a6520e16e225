use Rattle.std.proofs.Common.{◌≡◌, length}
use Rattle.walrus_base.specs.Arena.{kept_by}
use Rattle.walrus_base.specs.Marks.{is_marked}
use Rattle.walrus_base.proofs.Kept.{kept_behind}
use Rattle.walrus_base.proofs.arena.keep_marked.Given as goal

-- once the other places are done, it is what is kept
abbrev pub invariant-loop-place : goal.invariant-loop-place
invariant-loop-place g l =
    (length l.places.items ≡ length l.initial.places.items)
    × (kept_behind (is_marked l.marks) l.place l.places.items ≡ kept_by (is_marked l.marks) l.initial.places.items)
