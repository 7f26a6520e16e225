use Rattle.wasm_entries.specs.Record.{table_entry}
use Rattle.walrus_code.specs.Indices.{ids_at}
use Rattle.walrus_items.specs.Tables.{tables}
use Rattle.walrus_model.specs.Sections.{table_of}
use Rattle.walrus_reading.specs.Held.{HoldsTable, none_kept}
use Rattle.walrus_reading.specs.Stays.{TableStays}
use Rattle.walrus_reading.proofs.Rows.{none_yet, one_seen, all_twice, seen_all}
use Rattle.walrus_reading.proofs.tables.add_tables.Goals as goal

pub add_table-requires : goal.add_table-requires
add_table-requires c = record {
  stays = seen_all (TableStays (ids_at c.args.indices.now)) table_entry c.args.raw.now c.loop-entry.entry-index c.entry-item.result c.requires.stay c.loop-entry-test.true c.entry-item.is;
}

pub loop-entry-init : goal.loop-entry-init
loop-entry-init c = none_yet (HoldsTable none_kept) (λ e. table_of (table_entry e)) c.args.raw.now (tables c.args.all.now) (tables c.reserve.new.self) c.reserve.ensures.same

pub loop-entry-preserved : goal.loop-entry-preserved
loop-entry-preserved c =
    one_seen (HoldsTable none_kept) (λ e. table_of (table_entry e)) c.args.raw.now c.loop-entry.entry-index c.entry-item.result (tables c.args.all.now) (tables c.loop-entry.all) (tables c.add_table.new.all)
    c.loop-entry-test.true c.entry-item.is c.loop-entry.invariant c.in_ok-add_table.ensures.added

pub returns-clause-added : goal.returns-clause-added
returns-clause-added c =
    all_twice (HoldsTable none_kept) table_entry table_of c.args.raw.now c.loop-entry.entry-index (tables c.args.all.now) (tables c.loop-entry.all) c.loop-entry-test.false c.loop-entry.invariant
