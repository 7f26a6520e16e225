use Rattle.std.proofs.Common.{◌≡◌, ◌++◌}
use Rattle.std.specs.Option.{option_map, option_to_list}
use Rattle.walrus_base.specs.Id.{place}
use Rattle.walrus_base.specs.Arena.{items}
use Rattle.walrus_items.specs.Tables.{tables, tables_left, function_tables}
use Rattle.walrus_items.proofs.tables.«Items+TableKey+Table».main_function_table.Given as goal

-- the tables of functions are the one that was found, if one was, and those that are still to come
abbrev pub invariant-loop-table : goal.invariant-loop-table
invariant-loop-table l =
    (goal.iterator-loop-table).can_next l.table-iterator
    × (goal.iterator-loop-table).is_finite l.table-iterator
    × (function_tables (items (tables l.self))
    ≡ option_to_list (option_map place l.main) ++ function_tables (tables_left l.table-iterator))
