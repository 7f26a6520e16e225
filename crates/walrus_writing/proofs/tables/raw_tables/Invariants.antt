use Rattle.walrus_base.specs.Arena.{items}
use Rattle.walrus_code.specs.Indices.{index_of}
use Rattle.walrus_items.specs.Tables.{tables, tables_left}
use Rattle.walrus_writing.proofs.ItemsLeft.{TablesWritten}
use Rattle.walrus_writing.proofs.tables.raw_tables.Given as goal

-- the records so far, and the tables that are still to come
abbrev pub invariant-loop-table : goal.invariant-loop-table
invariant-loop-table l =
    goal.iterator-loop-table.can_next l.table-iterator
    × goal.iterator-loop-table.is_finite l.table-iterator
    × TablesWritten (index_of l.indices) (items (tables l.all)) l.raw.items (tables_left l.table-iterator)
