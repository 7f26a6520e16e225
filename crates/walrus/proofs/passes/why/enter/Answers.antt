use Rattle.std.proofs.Common.{refl, rules, ◌∙◌, arith}
use Rattle.walrus_code.specs.Code.{item_of}
use Rattle.walrus_model.specs.Live.{IsLive}
use Rattle.walrus_contents.specs.View.{lent, parts_view}
use Rattle.walrus_contents.proofs.Groups.{GroupsAreWhole, groups_whole}
use Rattle.walrus.specs.Worklist.{entered_items}
use Rattle.walrus.proofs.ChainsBack.{many_are}
use Rattle.walrus.proofs.Entered.{enters_marked, enters_new, has_room, notes_one}
use Rattle.walrus.proofs.Tracing.{more_are, names_again, names_new, noted_again, noted_first}
use Rattle.walrus.proofs.passes.why.enter.Goals as goal
use Rattle.walrus.proofs.passes.why.enter.Goals.{else-note, then-note+in_ok-push_places}

pub note-requires-clause-room : goal.note-requires-clause-room
note-requires-clause-room c =
    let v = parts_view c.args.parts in
    let x = item_of c.args.item in
    let live : IsLive v x = search rules in
    has_room v c.args.traced.now.list c.requires x live

pub note_group-requires-clause-kept : goal.note_group-requires-clause-kept
note_group-requires-clause-kept c =
    let v = parts_view c.args.parts in
    let x = item_of c.args.item in
    let live : IsLive v x = search rules in
    (notes_one v x c.args.traced.now.list c.note.new.self c.requires live c.note.ensures.noted).kept

pub push_places-requires : goal.push_places-requires
push_places-requires c =
    let old = c.args.traced.now.list in
    let new = c.note_group.new.list in
    let more = more_are (entered_items old) (entered_items c.note.new.self) (entered_items new) c.note_group.ensures.rest (item_of c.args.item)
    (noted_first (item_of c.args.item) old c.note.new.self c.note.ensures.noted c.note.result c.note.ensures.is_new c.if-note.true) c.note_group.ensures.grows in
    omega (arith, more, c.len-place.ensures, c.len-entered.ensures, many_are old, many_are new)

pub returns : goal.returns
returns c =
    let v = parts_view c.args.parts in
    let x = item_of c.args.item in
    let whole : GroupsAreWhole v = groups_whole (lent c.args.parts) c.groups_are_whole.ensures in
    let live : IsLive v x = search rules in
    let t = c.args.traced.now in
    let mid = c.note.new.self in
    let noted = notes_one v x t.list mid c.requires live c.note.ensures.noted in
    elim c.if-note.branch [
      | then-note+in_ok-push_places w ↦ rw (w.traced-is) (names_new v c.args.by x t (record { list = w.note_group.new.list; namers = w.push_places.new.places }) mid
          w.len-entered.result c.len-place.result w.unwrap_or.result (c.len-place.ensures ∙ many_are t.list) w.unwrap_or.ensures
          (noted_first x t.list mid c.note.ensures.noted c.note.result c.note.ensures.is_new w.if-note.true) w.note_group.ensures
          (enters_new v whole x live t.list mid w.note_group.new.list noted w.note_group.ensures) (w.len-entered.ensures ∙ many_are w.note_group.new.list) w.in_ok-push_places.ensures)
      | else-note w ↦ rw (w.traced-is) (names_again v c.args.by x t mid (record { list = mid; namers = t.namers }) refl refl
          (noted_again x t.list mid c.note.ensures.noted c.note.result c.note.ensures.is_new w.if-note.false)
          (enters_marked v whole x live t.list mid c.note.result c.requires c.note.ensures.is_new w.if-note.false noted))
    ]
