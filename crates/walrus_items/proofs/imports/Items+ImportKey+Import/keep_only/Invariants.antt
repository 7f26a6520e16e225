use Rattle.std.proofs.Common.{◌≡◌, length}
use Rattle.walrus_items.specs.Imports.{imports, stays_under}
use Rattle.walrus_items.specs.Keeping.{kept_where}
use Rattle.walrus_items.proofs.KeepingLemmas.{kept_behind}
use Rattle.walrus_items.proofs.imports.«Items+ImportKey+Import».keep_only.Given as goal

-- once the other places are done, it is what stays
abbrev pub invariant-loop-place : goal.invariant-loop-place
invariant-loop-place l =
    (length (imports l.self) ≡ length (imports l.initial.self))
    × (kept_behind (stays_under l.marks) l.place (imports l.self) ≡ kept_where (stays_under l.marks) (imports l.initial.self))
