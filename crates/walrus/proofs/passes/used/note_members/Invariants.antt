use Rattle.std.proofs.Common.{ℕ, map}
use Rattle.std.specs.Prelude.{Contains}
use Rattle.walrus_base.specs.Id.{place}
use Rattle.walrus_model.specs.Live.{IsLive}
use Rattle.walrus_base.specs.Operators.{Types, type_item}
use Rattle.walrus_base.specs.TypesLeft.{ids_left}
use Rattle.walrus_contents.specs.Named.{group_names}
use Rattle.walrus_contents.specs.View.{parts_view}
use Rattle.walrus.specs.Used.{NotesAll}
use Rattle.walrus.specs.Worklist.{Keeps}
use Rattle.walrus.specs.declared.passes.worklist.Worklist.{Worklist}
use Rattle.walrus.proofs.passes.used.note_members.Given as goal

-- the members to come are there, and what enters them enters all
abbrev pub invariant-members : goal.invariant-members
invariant-members l =
    (goal.iterator-members).can_next l.member-iterator
    × (goal.iterator-members).is_finite l.member-iterator
    × ((p : ℕ) → Contains (ids_left l.member-iterator) p → IsLive (parts_view l.parts) (type_item p))
    × Keeps (parts_view l.parts) l.list
    × ((new : Worklist) → NotesAll (parts_view l.parts) (map type_item (ids_left l.member-iterator)) l.list new
    → NotesAll (parts_view l.parts) (group_names (parts_view l.parts) (Types, place l.fn.id)) l.fn.list new)
