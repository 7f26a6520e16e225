use Rattle.std.specs.Prelude.{◌≡◌}
use Rattle.std.specs.List.{list_all}
use Rattle.walrus_base.specs.Arena.{items}
use Rattle.walrus_items.specs.Tables.{tables, tables_left}
use Rattle.walrus_module.specs.Tested.{table_is_limited}
use Rattle.walrus_module.proofs.limits.are_tables_limited.Given as goal

-- the limits of each so far are allowed: whether all are shows in those that are still to come
abbrev pub invariant-loop-table : goal.invariant-loop-table
invariant-loop-table l =
    goal.iterator-loop-table.can_next l.table-iterator
    × goal.iterator-loop-table.is_finite l.table-iterator
    × (list_all table_is_limited (items (tables l.all)) ≡ list_all table_is_limited (tables_left l.table-iterator))
