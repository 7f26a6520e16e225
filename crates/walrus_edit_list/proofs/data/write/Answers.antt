use Rattle.std.proofs.Common.{refl}
use Rattle.walrus_base.specs.Id.{place}
use Rattle.walrus_items.specs.Data.{data_value}
use Rattle.walrus_edit_list.specs.Data.{with_data}
use Rattle.walrus_edit_list.proofs.SegmentSets.{put_back}
use Rattle.walrus_edit_list.proofs.data.write.Goals as goal

pub returns : goal.returns
returns c =
    put_back data_value (with_data c.args.kind c.args.value.items) c.args.all.now.arena.places.items (place c.args.id) _ (data_value c.get_mut-segment.result.now)
    c.get_mut-segment.ensures.value refl
