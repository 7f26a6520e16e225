use Rattle.walrus_base.specs.Id.{place}
use Rattle.walrus_base.specs.Marks.{is_marked}
use Rattle.walrus_base.specs.PlaceList.{has}
use Rattle.std.proofs.Common.{map}
use Rattle.walrus_contents.proofs.ExportedRefs.{left_at, marks_go, room_here, room_later}
use Rattle.walrus_contents.proofs.references.marks_of.Goals as goal

pub mark_one-requires : goal.mark_one-requires
mark_one-requires c =
    room_here _ _ _ _ (left_at place c.args.ids.now c.ids.id-index _ c.ids-test.true) c.ids.invariant.0

pub ids-preserved : goal.ids-preserved
ids-preserved c =
    let left = left_at place c.args.ids.now c.ids.id-index _ c.ids-test.true in
    (room_later _ _ _ _ _ left c.mark_one.ensures.places c.ids.invariant.0, marks_go _ _ _ (is_marked c.ids.marks) _ (has (map place c.args.ids.now)) left c.mark_one.ensures.marks c.ids.invariant.1)
