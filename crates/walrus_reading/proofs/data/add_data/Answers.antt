use Rattle.std.proofs.Common.{ap, length, map, refl, subst, sym, take, ◌∙◌}
use Rattle.wasm_entries.specs.Record.{data_entry}
use Rattle.walrus_code.specs.Indices.{ids_at}
use Rattle.walrus_items.specs.Data.{data_segments}
use Rattle.walrus_items.specs.Memories.{memories}
use Rattle.walrus_model.specs.Sections.{data_kind, data_of}
use Rattle.walrus_reading.specs.Held.{HoldsData}
use Rattle.walrus_reading.specs.Kept.{all_data_kept, IsOnLive, memory_keeping}
use Rattle.walrus_reading.specs.Stays.{DataStays}
use Rattle.walrus_reading.proofs.KeptSegments.{added_many, kept_one_more, kept_to_end, on_live_after, on_memory}
use Rattle.walrus_reading.proofs.Rows.{all_twice, map_twice, none_yet, one_seen, seen_all}
use Rattle.walrus_reading.proofs.data.add_data.Goals as goal

pub add_segment-requires-clause-stays : goal.add_segment-requires-clause-stays
add_segment-requires-clause-stays c = seen_all (DataStays (ids_at c.args.indices.now)) data_entry c.args.raw.now c.loop-entry.entry-index c.entry-item.result c.requires.stay c.loop-entry-test.true c.entry-item.is

pub add_segment-requires-clause-there : goal.add_segment-requires-clause-there
add_segment-requires-clause-there c =
    let kind = data_kind (data_entry c.entry-item.result).mode in
    subst (λ l. IsOnLive l kind) (sym c.loop-entry.invariant.1)
    (on_live_after (map (λ e. data_of (data_entry e)) (take c.loop-entry.entry-index c.args.raw.now)) (length (data_segments c.args.all.now)) (memories c.args.within.now) kind
    (seen_all (λ d. IsOnLive (memories c.args.within.now) (data_kind d.mode)) data_entry c.args.raw.now c.loop-entry.entry-index c.entry-item.result c.requires.there c.loop-entry-test.true c.entry-item.is))

pub loop-entry-init : goal.loop-entry-init
loop-entry-init c = (none_yet HoldsData (λ e. data_of (data_entry e)) c.args.raw.now (data_segments c.args.all.now) (data_segments c.reserve.new.self) c.reserve.ensures.same, refl)

pub loop-entry-preserved : goal.loop-entry-preserved
loop-entry-preserved c = (
  one_seen HoldsData (λ e. data_of (data_entry e)) c.args.raw.now c.loop-entry.entry-index c.entry-item.result (data_segments c.args.all.now) (data_segments c.loop-entry.all) (data_segments c.add_segment.new.all)
      c.loop-entry-test.true c.entry-item.is c.loop-entry.invariant.0 c.in_ok-add_segment.ensures.added,
  kept_one_more memory_keeping on_memory (λ e. data_of (data_entry e)) c.args.raw.now (length (data_segments c.args.all.now)) (memories c.args.within.now) c.loop-entry.entry-index c.entry-item.result (length (data_segments c.loop-entry.all))
      (memories c.loop-entry.within) (memories c.add_segment.new.within) c.loop-entry-test.true c.entry-item.is c.loop-entry.invariant.1
      (added_many HoldsData (map (λ e. data_of (data_entry e)) (take c.loop-entry.entry-index c.args.raw.now)) (data_segments c.args.all.now) (data_segments c.loop-entry.all) c.loop-entry.invariant.0) c.in_ok-add_segment.ensures.kept,
)

pub returns-clause-added : goal.returns-clause-added
returns-clause-added c =
    all_twice HoldsData data_entry data_of c.args.raw.now c.loop-entry.entry-index (data_segments c.args.all.now) (data_segments c.loop-entry.all) c.loop-entry-test.false c.loop-entry.invariant.0

pub returns-clause-kept : goal.returns-clause-kept
returns-clause-kept c =
    kept_to_end memory_keeping on_memory (λ e. data_of (data_entry e)) c.args.raw.now (length (data_segments c.args.all.now)) (memories c.args.within.now) c.loop-entry.entry-index (memories c.loop-entry.within) c.loop-entry-test.false c.loop-entry.invariant.1
    ∙ ap (λ l. all_data_kept (length (data_segments c.args.all.now)) l (memories c.args.within.now)) (sym (map_twice data_entry data_of c.args.raw.now))
