use Rattle.std.proofs.Common.{ap, length, map, refl, subst, sym, take, ◌∙◌}
use Rattle.wasm_entries.specs.Record.{element_entry}
use Rattle.walrus_code.specs.Indices.{ids_at}
use Rattle.walrus_items.specs.Elements.{elements}
use Rattle.walrus_items.specs.Tables.{tables}
use Rattle.walrus_model.specs.Sections.{element_kind, element_of}
use Rattle.walrus_reading.specs.Held.{HoldsElement}
use Rattle.walrus_reading.specs.Kept.{elements_kept, AreOnLive, table_keeping}
use Rattle.walrus_reading.specs.Stays.{ElementStays}
use Rattle.walrus_reading.proofs.KeptSegments.{added_many, kept_one_more, kept_to_end, are_on_live_after, on_table}
use Rattle.walrus_reading.proofs.Rows.{all_twice, map_twice, none_yet, one_seen, seen_all}
use Rattle.walrus_reading.proofs.elements.add_elements.Goals as goal

pub add_segment-requires-clause-stays : goal.add_segment-requires-clause-stays
add_segment-requires-clause-stays c = seen_all (ElementStays (ids_at c.args.indices.now)) element_entry c.args.raw.now c.loop-entry.entry-index c.entry-item.result c.requires.stay c.loop-entry-test.true c.entry-item.is

pub add_segment-requires-clause-there : goal.add_segment-requires-clause-there
add_segment-requires-clause-there c =
    let kind = element_kind (element_entry c.entry-item.result).mode in
    subst (λ l. AreOnLive l kind) (sym c.loop-entry.invariant.1)
    (are_on_live_after (map (λ e. element_of (element_entry e)) (take c.loop-entry.entry-index c.args.raw.now)) (length (elements c.args.all.now)) (tables c.args.within.now) kind
    (seen_all (λ d. AreOnLive (tables c.args.within.now) (element_kind d.mode)) element_entry c.args.raw.now c.loop-entry.entry-index c.entry-item.result c.requires.there c.loop-entry-test.true c.entry-item.is))

pub loop-entry-init : goal.loop-entry-init
loop-entry-init c = (none_yet HoldsElement (λ e. element_of (element_entry e)) c.args.raw.now (elements c.args.all.now) (elements c.reserve.new.self) c.reserve.ensures.same, refl)

pub loop-entry-preserved : goal.loop-entry-preserved
loop-entry-preserved c = (
  one_seen HoldsElement (λ e. element_of (element_entry e)) c.args.raw.now c.loop-entry.entry-index c.entry-item.result (elements c.args.all.now) (elements c.loop-entry.all) (elements c.add_segment.new.all)
      c.loop-entry-test.true c.entry-item.is c.loop-entry.invariant.0 c.in_ok-add_segment.ensures.added,
  kept_one_more table_keeping on_table (λ e. element_of (element_entry e)) c.args.raw.now (length (elements c.args.all.now)) (tables c.args.within.now) c.loop-entry.entry-index c.entry-item.result (length (elements c.loop-entry.all))
      (tables c.loop-entry.within) (tables c.add_segment.new.within) c.loop-entry-test.true c.entry-item.is c.loop-entry.invariant.1
      (added_many HoldsElement (map (λ e. element_of (element_entry e)) (take c.loop-entry.entry-index c.args.raw.now)) (elements c.args.all.now) (elements c.loop-entry.all) c.loop-entry.invariant.0) c.in_ok-add_segment.ensures.kept,
)

pub returns-clause-added : goal.returns-clause-added
returns-clause-added c =
    all_twice HoldsElement element_entry element_of c.args.raw.now c.loop-entry.entry-index (elements c.args.all.now) (elements c.loop-entry.all) c.loop-entry-test.false c.loop-entry.invariant.0

pub returns-clause-kept : goal.returns-clause-kept
returns-clause-kept c =
    kept_to_end table_keeping on_table (λ e. element_of (element_entry e)) c.args.raw.now (length (elements c.args.all.now)) (tables c.args.within.now) c.loop-entry.entry-index (tables c.loop-entry.within) c.loop-entry-test.false c.loop-entry.invariant.1
    ∙ ap (λ l. elements_kept (length (elements c.args.all.now)) l (tables c.args.within.now)) (sym (map_twice element_entry element_of c.args.raw.now))
