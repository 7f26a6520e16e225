use Rattle.std.proofs.Common.{◌≡◌, ◌++◌, map}
use Rattle.walrus_base.specs.Arena.{entries}
use Rattle.walrus_base.specs.Id.{place}
use Rattle.walrus_items.specs.Tables.{tables, table_entries_left}
use Rattle.walrus_plan.specs.Brought.{own_places}
use Rattle.walrus_plan.proofs.by_import.tables_by_import.Given as goal

-- the places so far, and those of the module's own that are still to come
abbrev pub invariant-loop-id : goal.invariant-loop-id
invariant-loop-id l =
    goal.iterator-loop-id.can_next l.id-iterator
    × goal.iterator-loop-id.is_finite l.id-iterator
    × (map place l.ids.items ++ own_places (λ x. x.imported_by) (table_entries_left l.id-iterator) ≡ map place l.fn.brought.items ++ own_places (λ x. x.imported_by) (entries (tables l.all)))
