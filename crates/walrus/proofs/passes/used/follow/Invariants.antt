use Rattle.std.proofs.Common.{◌≡◌}
use Rattle.walrus.specs.Asked.{searched_view}
use Rattle.walrus.specs.Used.{Follows}
use Rattle.walrus.proofs.passes.used.follow.Given as goal

-- each turn takes one item
abbrev pub invariant-loop-turn : goal.invariant-loop-turn
invariant-loop-turn l = Follows (searched_view l.searched) l.list × (l.list.taken ≡ l._turn)
