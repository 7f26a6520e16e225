use Rattle.std.proofs.Common.{◌≡◌}
use Rattle.walrus_model.specs.Roots.{IsRoot}
use Rattle.walrus.specs.Asked.{searched_view}
use Rattle.walrus.specs.Traced.{Traces}
use Rattle.walrus.specs.Used.{Follows}
use Rattle.walrus.specs.Worklist.{entered_items}
use Rattle.walrus.proofs.passes.why.follow.Given as goal

-- each turn takes one item, and who named each is noted
abbrev pub invariant-loop-turn : goal.invariant-loop-turn
invariant-loop-turn l =
    Follows (searched_view l.searched) l.traced.list × (l.traced.list.taken ≡ l.turn)
    × Traces (IsRoot (searched_view l.searched)) (searched_view l.searched) (entered_items l.traced.list) l.traced.namers.items
