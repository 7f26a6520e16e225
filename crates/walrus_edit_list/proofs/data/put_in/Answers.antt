use Rattle.std.proofs.Common.{Bool, ap, true, ℕ}
use Rattle.walrus_base.specs.Id.{place}
use Rattle.walrus_items.specs.Memories.{MemoryValue, memory_value}
use Rattle.walrus_edit_list.specs.SegmentSets.{memory_with}
use Rattle.walrus_edit_list.proofs.SegmentSets.{put_back, put_in}
use Rattle.walrus_edit_list.proofs.data.put_in.Goals as goal

pub returns-clause-kept : goal.returns-clause-kept
returns-clause-kept c =
    let v : MemoryValue = memory_value c.get_mut.result.now in
    let d : ℕ = place c.args.segment in
    put_back memory_value (memory_with true d) c.args.all.now.arena.places.items (place c.args.memory) _ v c.get_mut.ensures.value
    (ap (λ (s : ℕ → Bool). record v { segments = s }) (put_in c.get_mut.result.now.data_segments c.insert.new.self d c.in_ok-insert.ensures.1))
