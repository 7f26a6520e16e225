use Rattle.std.proofs.Common.{sym, subst}
use Rattle.walrus_code.specs.Code.{item_of}
use Rattle.walrus_code.specs.declared.items.ItemId.{ItemId}
use Rattle.walrus_contents.specs.Named.{group_names}
use Rattle.walrus_contents.specs.View.{parts_view}
use Rattle.walrus.specs.Used.{NotesAll}
use Rattle.walrus.proofs.passes.used.note_group.Goals as goal

pub returns-in-Type : goal.returns-in-Type
returns-in-Type c =
    let v = parts_view c.args.parts in
    subst (λ (item : ItemId). NotesAll v (group_names v (item_of item)) c.args.list.now c.note_members.new.list) (sym c.in-Type.is) c.note_members.ensures
