use Rattle.std.proofs.Common.{refl}
use Rattle.walrus_base.specs.Id.{place}
use Rattle.walrus_items.specs.Memories.{memory_value}
use Rattle.walrus_edit_list.specs.Memories.{of_size}
use Rattle.walrus_edit_list.proofs.SegmentSets.{put_back}
use Rattle.walrus_edit_list.proofs.memories.resize.Goals as goal

pub returns : goal.returns
returns c =
    put_back memory_value (of_size c.args.size) c.args.all.now.arena.places.items (place c.args.id) _ (memory_value c.get_mut-memory.result.now) c.get_mut-memory.ensures.value
    refl
