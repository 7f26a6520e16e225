use Rattle.walrus_items.specs.Tables.{tables, table_entries_left}
use Rattle.walrus_model.proofs.Walked.{Walked}
use Rattle.walrus_plan.proofs.ReadsBefore.{TablePasses}
use Rattle.walrus_plan.proofs.reads.do_tables_read_imported.Given as goal

-- the tables that aren't left pass
abbrev pub invariant-loop-id : goal.invariant-loop-id
invariant-loop-id l =
    (goal.iterator-loop-id).can_next l.id-iterator
    × (goal.iterator-loop-id).is_finite l.id-iterator
    × Walked (TablePasses l.parts) (tables l.parts.tables.now) (table_entries_left l.id-iterator)
