use Rattle.std.proofs.Common.{◌≡◌, ◌-◌, ◌+◌, ◌++◌, replicate}
use Rattle.walrus.proofs.passes.why.push_places.Given as goal

-- so many are behind the first
abbrev pub invariant-loop-member : goal.invariant-loop-member
invariant-loop-member l = l.places.items ≡ l.initial.places.items ++ replicate (l._member - (l.own + 1)) l.own
