use Rattle.std.proofs.Common.{refl}
use Rattle.walrus_base.specs.Id.{place}
use Rattle.walrus_base.specs.Value.{val_type}
use Rattle.walrus_items.specs.Globals.{global_value}
use Rattle.walrus_edit_list.specs.Globals.{defines}
use Rattle.walrus_edit_list.proofs.SegmentSets.{put_back}
use Rattle.walrus_edit_list.proofs.globals.define.Goals as goal

pub returns : goal.returns
returns c =
    put_back global_value (defines (val_type c.args.ty) c.args.raw c.args.initial) c.args.all.now.arena.places.items (place c.args.id) _ (global_value c.get_mut-global.result.now)
    c.get_mut-global.ensures.value refl
