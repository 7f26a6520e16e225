use Rattle.std.proofs.Common.{◌==◌, ap₂, sym, ℕ, ◌∙◌}
use Rattle.walrus.specs.Base.Id.{place}
use Rattle.walrus.specs.Base.ModuleTypes.{type_slots}
use Rattle.walrus.specs.Base.Operators.{Types}
use Rattle.walrus.specs.Contents.View.{lent}
use Rattle.walrus.proofs.Contents.Groups.{groups_whole}
use Rattle.walrus_tools.proofs.CallersTurn.{members_told, untrue}
use Rattle.walrus_tools.proofs.referrers.is_in_group.Goals as goal

pub returns-then-not-contains : goal.returns-then-not-contains
returns-then-not-contains c = (
  λ h. absurd (untrue h),
  λ member. (let live = (groups_whole (lent c.args.parts) c.groups_are_whole.ensures (Types, place c.args.ty) (Types, place c.args.other) member).0 in absurd (untrue (sym c.if-not-contains.true ∙ c.contains.ensures.1 live))),
)

pub returns : goal.returns
returns c =
    members_told (type_slots c.args.parts.types.now) c.groups_are_whole.ensures (place c.args.ty) (place c.args.other) c.requires c.eq.result (c.contains.ensures.0 c.if-not-contains.false)
    (c.eq.ensures ∙ ap₂ (λ (m : ℕ) (n : ℕ). m == n) c.last_in_group.ensures c.last_in_group-2.ensures)
