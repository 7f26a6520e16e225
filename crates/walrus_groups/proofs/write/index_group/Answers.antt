use Rattle.std.proofs.Common.{ap, ◌∙◌, sym, subst}
use Rattle.wasm_entries.specs.Record.{sub}
use Rattle.walrus_base.specs.Id.{place}
use Rattle.walrus_base.specs.ModuleTypes.{type_slots}
use Rattle.walrus_base.specs.TypesLeft.{ids_left}
use Rattle.walrus_base.specs.TypeSlots.{group_at}
use Rattle.walrus_code.specs.Indices.{index_of}
use Rattle.walrus_groups.specs.Written.{StandsFor}
use Rattle.walrus_groups.proofs.WrittenTurns.{AllLive, completes_first, completes_next, completes_last, group_live, live_after}
use Rattle.walrus_groups.proofs.write.index_group.Goals as goal

pub loop-member-init : goal.loop-member-init
loop-member-init c =
    let same = ap ids_left c.into_iter-member-iterator.ensures.into_iter_gives ∙ c.group-member-items.ensures in
    let slots = type_slots c.args.types.now in (
      tt,
      tt,
      subst (AllLive slots) (sym same) (group_live slots (place c.args.id) c.groups_are_whole.ensures),
      completes_first (StandsFor (index_of c.args.indices.now) slots) (group_at slots (place c.args.id)) _ sub c.in_ok-members.members.items same c.in_ok-members.ensures.items,
    )

pub loop-member-preserved : goal.loop-member-preserved
loop-member-preserved c =
    let slots = type_slots c.args.types.now in (
      tt,
      tt,
      live_after slots _ _ (place c.in-Some.member) c.in-Some.ensures.steps c.loop-member.invariant.2,
      completes_next (StandsFor (index_of c.args.indices.now) slots) (group_at slots (place c.args.id)) _ _ (place c.in-Some.member) sub c.loop-member.members.items c.push.new.self.items c.in_ok-index_member.field-0 c.in-Some.ensures.steps c.in_ok-push.ensures.items c.in_ok-index_member.ensures.indexed c.loop-member.invariant.3,
    )

pub returns : goal.returns
returns c =
    let slots = type_slots c.args.types.now in
    record { indexed = completes_last (StandsFor (index_of c.args.indices.now) slots) (group_at slots (place c.args.id)) _ sub c.loop-member.members.items c.in-None.ensures.steps.0 c.loop-member.invariant.3 }
