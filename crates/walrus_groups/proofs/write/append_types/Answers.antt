use Rattle.std.proofs.Common.{◌≡◌, ℕ, List, ap, ◌∙◌, sym, subst}
use Rattle.std.specs.List.{AllZip}
use Rattle.walrus_base.specs.Arena.{entries, items}
use Rattle.walrus_base.proofs.Entries.{AllThere, entries_there}
use Rattle.walrus_base.specs.Id.{place}
use Rattle.walrus_base.specs.ModuleTypes.{type_slots}
use Rattle.walrus_base.specs.TypeDef.{TypeDef, type_def, type_place}
use Rattle.walrus_base.specs.TypeSlots.{group_at, group_of}
use Rattle.walrus_base.specs.TypesLeft.{types_left}
use Rattle.walrus_code.specs.Indices.{index_of}
use Rattle.walrus_groups.specs.Indexed.{AreIndexed}
use Rattle.walrus_groups.specs.Appended.{AppendsGroup}
use Rattle.walrus_groups.specs.Written.{GroupStandsFor, StandsFor, firsts}
use Rattle.walrus_groups.proofs.AppendedGroups.{none_appended, none_left, one_appended, said_else}
use Rattle.walrus_groups.proofs.WrittenTurns.{firsts_yes}
use Rattle.walrus_groups.proofs.WrittenWhole.{written}
use Rattle.walrus_groups.proofs.write.append_types.Goals as goal

pub loop-ty-init : goal.loop-ty-init
loop-ty-init c =
    let same = ap types_left c.into_iter-ty-iterator.ensures.into_iter_gives ∙ c.iter-ty-items.ensures in
    let slots = type_slots c.args.types.now in (
      tt,
      tt,
      subst (AllThere slots) (sym same) (entries_there slots),
      none_appended (GroupStandsFor (index_of c.args.indices.now) slots) (firsts (entries slots)) _ _ (ap firsts same),
    )

pub loop-ty-preserved-then-is_first : goal.loop-ty-preserved-then-is_first
loop-ty-preserved-then-is_first c =
    let slots = type_slots c.args.types.now in
    let names = index_of c.args.indices.now in
    let e : ℕ × TypeDef = (type_place c.in-Some.ty.now, type_def c.in-Some.ty.now) in
    let there = subst (AllThere slots) c.in-Some.ensures.steps c.loop-ty.invariant.2 in
    let members : group_at slots (place c.id.result) ≡ (type_def c.in-Some.ty.now).group = ap (group_at slots) c.id.ensures ∙ ap group_of there.0 in (
      tt,
      tt,
      there.1,
      one_appended (GroupStandsFor names slots) (firsts (entries slots)) _ _ e c.loop-ty.count c.in_ok-count.count c.args.to.now.items c.loop-ty.to.items c.append_group.new.to.items (firsts_yes _ _ e c.in-Some.ensures.steps (sym c.is_first.ensures ∙ c.if-is_first.true)) c.loop-ty.invariant.3
          (subst (λ (ps : List ℕ). AppendsGroup (AllZip (StandsFor names slots) ps) c.loop-ty.count c.in_ok-count.count c.loop-ty.to.items c.append_group.new.to.items) members c.in_ok-count.ensures),
    )

pub returns : goal.returns
returns c =
    let slots = type_slots c.args.types.now in
    let names = index_of c.args.indices.now in
    said_else (AllZip (GroupStandsFor names slots) (firsts (entries slots))) (AreIndexed names (items slots)) _ _ _ (λ groups zip. (written names _ groups c.groups_are_whole.ensures c.requires.numbered zip).0)
    (none_left (GroupStandsFor names slots) (firsts (entries slots)) _ _ _ _ (ap firsts c.in-None.ensures.steps.0) c.loop-ty.invariant.3)
