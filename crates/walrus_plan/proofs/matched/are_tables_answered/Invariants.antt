use Rattle.walrus_base.specs.Operators.{Tables}
use Rattle.walrus_items.specs.Tables.{tables, table_entries_left}
use Rattle.walrus_contents.specs.View.{parts_view}
use Rattle.walrus_model.proofs.Walked.{Walked}
use Rattle.walrus_plan.proofs.Matching.{AnsweredAt}
use Rattle.walrus_plan.proofs.matched.are_tables_answered.Given as goal

-- the tables that aren't left are answered
abbrev pub invariant-loop-id : goal.invariant-loop-id
invariant-loop-id l =
    goal.iterator-loop-id.can_next l.id-iterator
    × goal.iterator-loop-id.is_finite l.id-iterator
    × Walked (AnsweredAt (parts_view l.parts) Tables) (tables l.parts.tables.now) (table_entries_left l.id-iterator)
