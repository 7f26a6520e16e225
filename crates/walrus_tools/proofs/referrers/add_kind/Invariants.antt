use Rattle.walrus.specs.Code.Code.{item_of}
use Rattle.walrus.specs.Contents.Named.{items_in}
use Rattle.walrus.specs.Contents.View.{parts_view}
use Rattle.walrus_tools.specs.Callers.{CallersBefore, IsPastSpace, space_of}
use Rattle.walrus_tools.proofs.referrers.add_kind.Given as goal

-- those of the kinds before are there, and those of this one up to this index
abbrev pub invariant-items : goal.invariant-items
invariant-items l =
    CallersBefore (parts_view l.parts) (item_of l.other) (space_of l.kind, l.index) (items_in l.callers) × IsPastSpace (parts_view l.parts) (space_of l.kind) l.index-end
