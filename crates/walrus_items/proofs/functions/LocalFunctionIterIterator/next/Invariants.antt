use Rattle.std.proofs.Common.{◌≡◌, length}
use Rattle.walrus_base.specs.Arena.{entries_left}
use Rattle.walrus_items.specs.Functions.{locals_left}
use Rattle.walrus_items.proofs.functions.LocalFunctionIterIterator.next.Given as goal

-- nothing that has a body was passed over
abbrev pub invariant-loop-id : goal.invariant-loop-id
invariant-loop-id l = locals_left l.initial.self ≡ locals_left l.self

abbrev pub decreases-loop-id : goal.decreases-loop-id
decreases-loop-id l = length (entries_left l.self.rest)
