use Rattle.std.proofs.Common.{[], ap, flat_map, map, refl, ◌∙◌}
use Rattle.std.specs.Prelude.{zip}
use Rattle.wasm_entries.specs.Record.{data_entry, element_entry, export_entry, global_entry, import_entry, table_entry}
use Rattle.walrus.specs.Frames.Record.{body_record}
use Rattle.walrus_edits.specs.ItemRecords.{AGlobal, AMemory, ASegment, ATable, ATag, AnElement, AnExport}
use Rattle.walrus_edits.specs.ItemValues.{functions_in, with_brought}
use Rattle.walrus_edits.proofs.ListSteps.{parts_end, parts_more, parts_none}
use Rattle.walrus_edits.proofs.item_list.tell_parts.Goals as goal

pub returns : goal.returns
returns c =
    let bodies = c.args.raw.now.bodies.items in
    let old = c.args.to.now.items in
    let p1 = parts_more old old _ [] _ _ (ap (λ xs. flat_map with_brought (map import_entry xs)) c.deref.ensures.value) (parts_none old) c.in_ok-tell_imports.ensures in
    let p2 = parts_more old _ _ _ _ _ (ap (λ xs. functions_in (zip (map body_record xs) c.deref-3.result.now)) c.deref-2.ensures.value ∙ ap (λ xs. functions_in (zip (map body_record bodies) xs)) c.deref-3.ensures.value) p1
    c.in_ok-tell_functions.ensures in
    let p3 = parts_more old _ _ _ _ _ (ap (λ xs. map ATable (map table_entry xs)) c.deref-4.ensures.value) p2 c.in_ok-tell_tables.ensures in
    let p4 = parts_more old _ _ _ _ _ (ap (map AMemory) c.deref-5.ensures.value) p3 c.in_ok-tell_all.ensures in
    let p5 = parts_more old _ _ _ _ _ (ap (map ATag) c.deref-6.ensures.value) p4 c.in_ok-tell_all-2.ensures in
    let p6 = parts_more old _ _ _ _ _ (ap (λ xs. map AGlobal (map global_entry xs)) c.deref-7.ensures.value) p5 c.in_ok-tell_globals.ensures in
    let p7 = parts_more old _ _ _ _ _ (ap (λ xs. map AnExport (map export_entry xs)) c.deref-8.ensures.value) p6 c.in_ok-tell_exports.ensures in
    let p8 = parts_more old _ _ _ _ _ refl p7 c.in_ok-tell_start.ensures in
    let p9 = parts_more old _ _ _ _ _ (ap (λ xs. map AnElement (map element_entry xs)) c.deref-9.ensures.value) p8 c.in_ok-tell_elements.ensures in
    let p10 = parts_more old _ _ _ _ _ (ap (λ xs. map ASegment (map data_entry xs)) c.deref-10.ensures.value) p9 c.in_ok-tell_data.ensures in
    parts_end old _ _ p10
