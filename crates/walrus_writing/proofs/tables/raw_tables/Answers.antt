use Rattle.std.proofs.Common.{ap, ◌∙◌, sym, refl, map, Some}
use Rattle.std.proofs.lemmas.Result.{err_from_is_err_and}
use Rattle.wasm_entries.specs.Record.{table_entry}
use Rattle.walrus_base.specs.Arena.{items}
use Rattle.walrus_base.specs.Id.{place}
use Rattle.walrus_code.specs.Indices.{index_of}
use Rattle.walrus_constants.specs.Named.{named_table}
use Rattle.walrus_contents.specs.View.{table_of}
use Rattle.walrus_items.specs.Tables.{tables, tables_left}
use Rattle.walrus_model.specs.Sections as said
use Rattle.walrus_writing.proofs.ItemsLeft.{first_among, next_has, none_brings, one_brings, own_step, table_refused, written_begins, written_done, written_more, written_past, written_spelled}
use Rattle.walrus_writing.proofs.tables.raw_tables.Goals as goal

pub raw_table-requires : goal.raw_table-requires
raw_table-requires c = record { own = none_brings place _ _ _ refl c.is_none.ensures c.if-is_none.true }

pub returns-in_err-one-clause-fails : goal.returns-in_err-one-clause-fails
returns-in_err-one-clause-fails c =
    let every = items (tables c.args.all.now) in
    let p = err_from_is_err_and c.from_residual-in_err-one.result c.from_residual-in_err-one.ensures.1 in
    let w = c.loop-table.invariant.2 in
    rw (p.1, p.2) (table_refused (index_of c.args.indices.now) _ every _ (first_among _ _ _ c.in-Some.ensures.steps every w.among)
    (next_has (map (λ t. Some (said.table_of (table_entry t))) c.loop-table.raw.items) (λ t. named_table (index_of c.args.indices.now) (table_of t)) _ _ _ _ w.made (own_step _ _ _ c.in-Some.ensures.steps (λ x. x.imported_by) (none_brings place _ _ _ refl c.is_none.ensures c.if-is_none.true)) c.requires.indexed)
    c.in_err-one.ensures)

pub loop-table-preserved-in-Continue-branch-3 : goal.loop-table-preserved-in-Continue-branch-3
loop-table-preserved-in-Continue-branch-3 c = (
  tt,
  tt,
  written_more _ _ _ _ _ _ _ _ _ _ _ c.in-Some.ensures.steps c.loop-table.invariant.2 _ (none_brings place _ _ _ refl c.is_none.ensures c.if-is_none.true) c.in_ok-push.ensures.items c.in_ok-one.ensures.1 c.in_ok-one.ensures.2 (sym c.in_ok-one.ensures.0),
)

pub loop-table-preserved : goal.loop-table-preserved
loop-table-preserved c = (tt, tt, written_past _ _ _ _ _ _ _ _ _ _ _ c.in-Some.ensures.steps c.loop-table.invariant.2 (one_brings place _ _ _ refl c.is_none.ensures c.if-is_none.false) refl)

pub loop-table-init : goal.loop-table-init
loop-table-init c = (
  tt,
  tt,
  written_begins _ _ _ _ _ (items (tables c.args.all.now)) _ _ c.in_ok-raw.ensures.items (ap tables_left c.into_iter-table-iterator.ensures.into_iter_gives ∙ c.iter-table-items.ensures),
)

pub returns-clause-value : goal.returns-clause-value
returns-clause-value c = written_done _ _ _ _ _ _ _ _ c.in-None.ensures.steps.0 c.loop-table.invariant.2

pub returns-clause-stand : goal.returns-clause-stand
returns-clause-stand c = c.loop-table.invariant.2.stand

pub returns-clause-spelled : goal.returns-clause-spelled
returns-clause-spelled c = written_spelled _ _ _ _ _ _ _ _ c.in-None.ensures.steps.0 c.loop-table.invariant.2
