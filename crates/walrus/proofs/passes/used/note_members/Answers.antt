use Rattle.std.proofs.Common.{◌≡◌, ℕ, List, [], ◌∷◌, map, sym, ap, ◌∙◌, subst}
use Rattle.std.specs.Prelude.{Contains}
use Rattle.walrus_base.specs.Arena.{item_at}
use Rattle.walrus_base.specs.Id.{place}
use Rattle.walrus_model.specs.Live.{IsLive}
use Rattle.walrus_base.specs.ModuleTypes.{type_slots}
use Rattle.walrus_base.specs.Operators.{Item, Types, type_item}
use Rattle.walrus_base.specs.TypeSlots.{group_at}
use Rattle.walrus_base.specs.TypesLeft.{ids_left}
use Rattle.walrus_base.proofs.Lists.{Contains-head, Contains-tail}
use Rattle.walrus_contents.specs.Named.{group_names}
use Rattle.walrus_contents.specs.View.{parts_view}
use Rattle.walrus_contents.proofs.Groups.{group_live}
use Rattle.walrus.specs.Used.{NotesAll}
use Rattle.walrus.proofs.Entered.{group_members, has_room, notes_both, notes_none, notes_one}
use Rattle.walrus.proofs.passes.used.note_members.Goals as goal

pub members-init : goal.members-init
members-init c =
    let v = parts_view c.args.parts in
    let slots = type_slots c.args.parts.types.now in
    let t = place c.args.id in
    let left = ids_left c.into_iter-member-iterator.result in
    let is : left ≡ group_at slots t = ap ids_left c.into_iter-member-iterator.ensures.into_iter_gives ∙ c.group-member-items.ensures in
    let named : map type_item left ≡ group_names v (Types, t) = ap (map type_item) is ∙ group_members (item_at slots t) in (
      tt,
      tt,
      λ p at. group_live slots c.groups_are_whole.ensures t p (subst (λ (ps : List ℕ). Contains ps p) is at),
      c.requires.kept,
      λ new n. subst (λ (xs : List Item). NotesAll v xs c.args.list.now new) named n,
    )

pub note-requires-clause-agrees : goal.note-requires-clause-agrees
note-requires-clause-agrees c = c.members.invariant.3.agrees

pub note-requires-clause-place : goal.note-requires-clause-place
note-requires-clause-place c =
    let q = place c.in-Some.member in
    let at : Contains (ids_left c.members.member-iterator) q = subst (λ (ps : List ℕ). Contains ps q) (sym c.in-Some.ensures.steps) (Contains-head q _) in
    c.members.invariant.3.places (type_item q) (c.members.invariant.2 q at)

pub note-requires-clause-room : goal.note-requires-clause-room
note-requires-clause-room c =
    let q = place c.in-Some.member in
    let at : Contains (ids_left c.members.member-iterator) q = subst (λ (ps : List ℕ). Contains ps q) (sym c.in-Some.ensures.steps) (Contains-head q _) in
    has_room (parts_view c.args.parts) c.members.list c.members.invariant.3 (type_item q) (c.members.invariant.2 q at)

pub members-preserved : goal.members-preserved
members-preserved c =
    let v = parts_view c.args.parts in
    let q = place c.in-Some.member in
    let rest = ids_left c.next.new.self in
    let list = c.members.list in
    let steps : ids_left c.members.member-iterator ≡ q ∷ rest = c.in-Some.ensures.steps in
    let live : IsLive v (type_item q) = c.members.invariant.2 q (subst (λ (ps : List ℕ). Contains ps q) (sym steps) (Contains-head q rest)) in
    let noted = notes_one v (type_item q) list c.note.new.self c.members.invariant.3 live c.note.ensures.noted in (
      tt,
      tt,
      λ p at. c.members.invariant.2 p (subst (λ (ps : List ℕ). Contains ps p) (sym steps) (Contains-tail q p rest at)),
      noted.kept,
      λ new n. c.members.invariant.4 new (subst (λ (ps : List ℕ). NotesAll v (map type_item ps) list new) (sym steps)
          (notes_both v (type_item q ∷ []) (map type_item rest) list c.note.new.self new noted n)),
    )

pub returns : goal.returns
returns c =
    let v = parts_view c.args.parts in
    let list = c.members.list in
    c.members.invariant.4 list (subst (λ (ps : List ℕ). NotesAll v (map type_item ps) list list) (sym c.in-None.ensures.steps.0) (notes_none v list c.members.invariant.3))
