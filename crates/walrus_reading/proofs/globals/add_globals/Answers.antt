use Rattle.wasm_entries.specs.Record.{global_entry}
use Rattle.walrus_code.specs.Indices.{ids_at}
use Rattle.walrus_items.specs.Globals.{globals}
use Rattle.walrus_model.specs.Sections.{global_of}
use Rattle.walrus_reading.specs.Held.{HoldsGlobal}
use Rattle.walrus_reading.specs.Stays.{GlobalStays}
use Rattle.walrus_reading.proofs.Rows.{none_yet, one_seen, all_twice, seen_all}
use Rattle.walrus_reading.proofs.globals.add_globals.Goals as goal

pub add_global-requires : goal.add_global-requires
add_global-requires c = record {
  stays = seen_all (GlobalStays (ids_at c.args.indices.now)) global_entry c.args.raw.now c.loop-entry.entry-index c.entry-item.result c.requires.stay c.loop-entry-test.true c.entry-item.is;
}

pub loop-entry-init : goal.loop-entry-init
loop-entry-init c = none_yet HoldsGlobal (λ e. global_of (global_entry e)) c.args.raw.now (globals c.args.all.now) (globals c.reserve.new.self) c.reserve.ensures.same

pub loop-entry-preserved : goal.loop-entry-preserved
loop-entry-preserved c =
    one_seen HoldsGlobal (λ e. global_of (global_entry e)) c.args.raw.now c.loop-entry.entry-index c.entry-item.result (globals c.args.all.now) (globals c.loop-entry.all) (globals c.add_global.new.all)
    c.loop-entry-test.true c.entry-item.is c.loop-entry.invariant c.in_ok-add_global.ensures.added

pub returns-clause-added : goal.returns-clause-added
returns-clause-added c =
    all_twice HoldsGlobal global_entry global_of c.args.raw.now c.loop-entry.entry-index (globals c.args.all.now) (globals c.loop-entry.all) c.loop-entry-test.false c.loop-entry.invariant
