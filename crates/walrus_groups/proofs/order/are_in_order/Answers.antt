use Rattle.std.proofs.Common.{false, ap, ◌∙◌, sym, subst, ◌&&◌}
use Rattle.std.specs.List.{list_all}
use Rattle.walrus_base.proofs.Entries.{AllThere, entries_there}
use Rattle.walrus_base.specs.ModuleTypes.{type_slots}
use Rattle.walrus_base.specs.TypesLeft.{types_left}
use Rattle.walrus_groups.specs.Ordered.{is_ordered}
use Rattle.walrus_groups.proofs.OrderWhole.{told, told_out}
use Rattle.walrus_groups.proofs.order.are_in_order.Goals as goal

pub loop-ty-init : goal.loop-ty-init
loop-ty-init c =
    let same = ap types_left c.into_iter-ty-iterator.ensures.into_iter_gives ∙ c.iter-ty-items.ensures in (
      tt,
      tt,
      subst (AllThere (type_slots c.args.types.now)) (sym same) (entries_there (type_slots c.args.types.now)),
      ap (list_all is_ordered) (sym same),
    )

pub returns-clause-in_order : goal.returns-clause-in_order
returns-clause-in_order c = told _ _ c.groups_are_whole.ensures (sym (c.loop-ty.invariant.3 ∙ ap (list_all is_ordered) c.in-None.ensures.steps.0))

pub returns-then-not-is_in_order-clause-in_order : goal.returns-then-not-is_in_order-clause-in_order
returns-then-not-is_in_order-clause-in_order c =
    let after = types_left c.next.new.self in
    told _ _ c.groups_are_whole.ensures (sym (c.loop-ty.invariant.3 ∙ ap (list_all is_ordered) c.in-Some.ensures.steps ∙ ap (λ b. b && list_all is_ordered after) (sym c.is_in_order.ensures ∙ c.if-not-is_in_order.true)))

pub returns-then-not-is_in_order-clause-cause : goal.returns-then-not-is_in_order-clause-cause
returns-then-not-is_in_order-clause-cause c =
    let after = types_left c.next.new.self in
    told_out _ false c.groups_are_whole.ensures (sym (c.loop-ty.invariant.3 ∙ ap (list_all is_ordered) c.in-Some.ensures.steps ∙ ap (λ b. b && list_all is_ordered after) (sym c.is_in_order.ensures ∙ c.if-not-is_in_order.true)))
