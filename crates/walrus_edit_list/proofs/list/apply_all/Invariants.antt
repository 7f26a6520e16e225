use Rattle.std.proofs.Common.{◌≡◌, length}
use Rattle.walrus_functions.specs.Signatures.{tag_places}
use Rattle.walrus_edit_list.specs.Held.{held}
use Rattle.walrus_edit_list.specs.Ids.{tag_types}
use Rattle.walrus_edit_list.proofs.Folding.{SoFar}
use Rattle.walrus_edit_list.proofs.list.apply_all.Given as goal

-- the edits so far, and the bytes behind them; the tags have the types that were taken
abbrev pub invariant-edits : goal.invariant-edits
invariant-edits g l =
    SoFar l.features l.edits l.applied l.rest (held l.initial.module l.initial.beside) (held l.module l.beside)
    × (l.applied-end ≡ length l.edits)
    × (tag_places l.tag_types.items ≡ tag_types l.module.tags)
