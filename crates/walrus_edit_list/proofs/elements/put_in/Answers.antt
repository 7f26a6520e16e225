use Rattle.std.proofs.Common.{Bool, ap, true, ℕ}
use Rattle.walrus_base.specs.Id.{place}
use Rattle.walrus_items.specs.Tables.{TableValue, table_value}
use Rattle.walrus_edit_list.specs.SegmentSets.{table_with}
use Rattle.walrus_edit_list.proofs.SegmentSets.{put_back, put_in}
use Rattle.walrus_edit_list.proofs.elements.put_in.Goals as goal

pub returns-clause-kept : goal.returns-clause-kept
returns-clause-kept c =
    let v : TableValue = table_value c.get_mut.result.now in
    let d : ℕ = place c.args.segment in
    put_back table_value (table_with true d) c.args.all.now.arena.places.items (place c.args.table) _ v c.get_mut.ensures.value
    (ap (λ (s : ℕ → Bool). record v { segments = s }) (put_in c.get_mut.result.now.elem_segments c.insert.new.self d c.in_ok-insert.ensures.1))
