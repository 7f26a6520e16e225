use Rattle.std.proofs.Common.{rules, sym, ◌∙◌}
use Rattle.walrus_code.specs.Code.{item_of}
use Rattle.walrus_model.specs.Live.{IsLive}
use Rattle.walrus_contents.specs.View.{lent, parts_view}
use Rattle.walrus_contents.proofs.Groups.{GroupsAreWhole, groups_whole}
use Rattle.walrus.proofs.Entered.{enters_before, enters_marked, enters_new, has_room, notes_one}
use Rattle.walrus.proofs.passes.used.enter.Goals as goal
use Rattle.walrus.proofs.passes.used.enter.Goals.{else-note, then-note}

pub note-requires-clause-room : goal.note-requires-clause-room
note-requires-clause-room c =
    let v = parts_view c.args.parts in
    let x = item_of c.args.item in
    let live : IsLive v x = search rules in
    has_room v c.args.list.now c.requires x live

pub note_group-requires-clause-kept : goal.note_group-requires-clause-kept
note_group-requires-clause-kept c =
    let v = parts_view c.args.parts in
    let x = item_of c.args.item in
    let live : IsLive v x = search rules in
    (notes_one v x c.args.list.now c.note.new.self c.requires live c.note.ensures.noted).kept

pub returns : goal.returns
returns c =
    let v = parts_view c.args.parts in
    let x = item_of c.args.item in
    let whole : GroupsAreWhole v = groups_whole (lent c.args.parts) c.groups_are_whole.ensures in
    let live : IsLive v x = search rules in
    let old = c.args.list.now in
    let mid = c.note.new.self in
    let noted = notes_one v x old mid c.requires live c.note.ensures.noted in
    elim c.if-note.branch [
      | then-note w ↦ rw (w.list-is) (enters_new v whole x live old mid w.note_group.new.list noted w.note_group.ensures)
      | else-note w ↦ rw (w.list-is) (enters_marked v whole x live old mid c.note.result c.requires c.note.ensures.is_new w.if-note.false noted)
    ]

pub returns-then-is_marked : goal.returns-then-is_marked
returns-then-is_marked c =
    let v = parts_view c.args.parts in
    let x = item_of c.args.item in
    let list = c.args.list.now in
    let marked = sym c.is_marked.ensures ∙ c.if-is_marked.true in
    enters_before v (groups_whole (lent c.args.parts) c.groups_are_whole.ensures) x (c.requires.live x ((c.requires.agrees x).0 marked)) list c.requires marked
