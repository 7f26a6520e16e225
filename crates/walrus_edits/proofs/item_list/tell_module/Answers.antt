use Rattle.std.proofs.Common.{[], ap, map, refl}
use Rattle.walrus.specs.Frames.Record.{custom_record, sections}
use Rattle.walrus_edits.specs.ItemValues.{customs_from, producers_in, section_parts, with_ids}
use Rattle.walrus_edits.proofs.ListSteps.{parts_end, parts_join, parts_more, parts_none}
use Rattle.walrus_edits.proofs.item_list.tell_module.Goals as goal

pub returns : goal.returns
returns c =
    let old = c.args.to.now.items in
    let p1 = parts_more old old _ [] _ _ refl (parts_none old) c.in_ok-tell_groups.ensures in
    let p2 = parts_join old _ _ _ (section_parts (sections c.args.raw.now)) p1 c.in_ok-tell_parts.ensures in
    let p3 = parts_more old _ _ _ _ _ (ap (λ xs. customs_from 0 (with_ids (map custom_record xs))) c.deref.ensures.value) p2 c.in_ok-tell_customs.ensures in
    let p4 = parts_more old _ _ _ _ _ (ap producers_in c.fields.ensures) p3 c.in_ok-tell_producers.ensures in
    let p5 = parts_more old _ _ _ _ _ refl p4 c.in_ok-tell_names.ensures in
    let p6 = parts_more old _ _ _ _ _ refl p5 c.in_ok-tell_all.ensures in
    parts_end old _ _ p6
