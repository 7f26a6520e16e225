use Rattle.std.proofs.Common.{arith, subst, ℕ, ◌≡◌, ◌<◌}
use Rattle.walrus.specs.Base.Operators.{Item}
use Rattle.walrus.specs.Code.Code.{item_of}
use Rattle.walrus.specs.Contents.Named.{items_in}
use Rattle.walrus.specs.Contents.View.{parts_view}
use Rattle.walrus_tools.specs.Callers.{AddsIfCaller, space_of}
use Rattle.walrus_tools.proofs.CallersTurn.{callers_next, callers_through}
use Rattle.walrus_tools.proofs.referrers.add_kind.Goals as goal

pub items-preserved : goal.items-preserved
items-preserved c =
    let v = parts_view c.args.parts in
    let y = item_of c.args.other in
    let adds = subst (λ (x : Item). AddsIfCaller v x y (items_in c.items.callers) (items_in c.add_if_caller.new.callers)) c.item_at.ensures c.in_ok-add_if_caller.ensures in
    (callers_next v y (space_of c.args.kind) c.items.index (items_in c.items.callers) (items_in c.add_if_caller.new.callers) c.items.invariant.0 adds, c.items.invariant.1)

pub returns : goal.returns
returns c =
    let last : c.end_of-index-end.result ≡ c.items.index = omega (arith, c.items-test.false, c.items.auto.index-end) in
    callers_through (parts_view c.args.parts) (item_of c.args.other) (space_of c.args.kind) c.items.index (items_in c.items.callers) c.items.invariant.0
    (λ i has. subst (λ (n : ℕ). i < n) last (c.items.invariant.1 i has))
