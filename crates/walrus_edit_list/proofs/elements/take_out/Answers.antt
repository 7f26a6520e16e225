use Rattle.std.proofs.Common.{Bool, ap, false, ℕ}
use Rattle.walrus_base.specs.Id.{place}
use Rattle.walrus_items.specs.Tables.{TableValue, table_value}
use Rattle.walrus_edit_list.specs.SegmentSets.{table_with}
use Rattle.walrus_edit_list.proofs.SegmentSets.{put_back, taken_out}
use Rattle.walrus_edit_list.proofs.elements.take_out.Goals as goal

pub returns-then-contains : goal.returns-then-contains
returns-then-contains c =
    let v : TableValue = table_value c.get_mut.result.now in
    let d : ℕ = place c.args.segment in
    put_back table_value (table_with false d) c.args.all.now.arena.places.items (place c.args.table) _ v c.get_mut.ensures.value
    (ap (λ (s : ℕ → Bool). record v { segments = s }) (taken_out c.get_mut.result.now.elem_segments c.remove-was_in.new.self d c.remove-was_in.ensures.removes))
