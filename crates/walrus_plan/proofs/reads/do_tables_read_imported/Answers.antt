use Rattle.std.proofs.Common.{ℕ, ap, sym, ◌∙◌}
use Rattle.walrus_base.specs.Arena.{item_at}
use Rattle.walrus_base.specs.Id.{place}
use Rattle.walrus_items.specs.Tables.{TableValue, tables, table_entries_left, table_value}
use Rattle.walrus_contents.specs.View.{table_of}
use Rattle.walrus_contents.proofs.LiveLemmas.{seen_there}
use Rattle.walrus_model.proofs.Walked.{next_there, walk_begins, walk_goes, walk_ends}
use Rattle.walrus_plan.proofs.ReadsBefore.{TablePasses, table_lacks, tables_read}
use Rattle.walrus_plan.proofs.reads.do_tables_read_imported.Goals as goal

pub loop-id-init : goal.loop-id-init
loop-id-init c =
    let p = c.args.parts in
    (tt, tt, walk_begins (TablePasses p) (tables p.tables.now) _ (ap table_entries_left c.into_iter-id-iterator.ensures.into_iter_gives ∙ c.iter_entries-id-items.ensures))

pub does_read_before-requires-clause-live : goal.does_read_before-requires-clause-live
does_read_before-requires-clause-live c =
    let p = c.args.parts in
    let e : ℕ × TableValue = (place c.in-Some.id, table_value c.in-Some._table.now) in
    seen_there table_of (item_at (tables p.tables.now) e.0) e.1 (next_there (TablePasses p) (tables p.tables.now) _ _ e c.in-Some.ensures.steps c.loop-id.invariant.2)

pub returns-then-not-branch-clause-lacks : goal.returns-then-not-branch-clause-lacks
returns-then-not-branch-clause-lacks c = λ is.
    let p = c.args.parts in
    let e : ℕ × TableValue = (place c.in-Some.id, table_value c.in-Some._table.now) in
    table_lacks p e.0 e.1 (next_there (TablePasses p) (tables p.tables.now) _ _ e c.in-Some.ensures.steps c.loop-id.invariant.2) (sym c.in_ok-does_read_before.ensures.value ∙ c.if-not-branch.true)

pub loop-id-preserved : goal.loop-id-preserved
loop-id-preserved c =
    let p = c.args.parts in
    (tt, tt, walk_goes (TablePasses p) (tables p.tables.now) _ _ (place c.in-Some.id, table_value c.in-Some._table.now) c.in-Some.ensures.steps (sym c.in_ok-does_read_before.ensures.value ∙ c.if-not-branch.false) c.loop-id.invariant.2)

pub returns-clause-in_order : goal.returns-clause-in_order
returns-clause-in_order c = λ is.
    let p = c.args.parts in
    tables_read p (walk_ends (TablePasses p) (tables p.tables.now) _ c.in-None.ensures.steps.0 c.loop-id.invariant.2)
