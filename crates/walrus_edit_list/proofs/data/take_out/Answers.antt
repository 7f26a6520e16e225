use Rattle.std.proofs.Common.{Bool, ap, false, ℕ}
use Rattle.walrus_base.specs.Id.{place}
use Rattle.walrus_items.specs.Memories.{MemoryValue, memory_value}
use Rattle.walrus_edit_list.specs.SegmentSets.{memory_with}
use Rattle.walrus_edit_list.proofs.SegmentSets.{put_back, taken_out}
use Rattle.walrus_edit_list.proofs.data.take_out.Goals as goal

pub returns-then-contains : goal.returns-then-contains
returns-then-contains c =
    let v : MemoryValue = memory_value c.get_mut.result.now in
    let d : ℕ = place c.args.segment in
    put_back memory_value (memory_with false d) c.args.all.now.arena.places.items (place c.args.memory) _ v c.get_mut.ensures.value
    (ap (λ (s : ℕ → Bool). record v { segments = s }) (taken_out c.get_mut.result.now.data_segments c.remove-was_in.new.self d c.remove-was_in.ensures.removes))
