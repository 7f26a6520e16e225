use Rattle.walrus_base.specs.Operators.{Functions}
use Rattle.walrus_items.specs.Functions.{functions, function_entries_left}
use Rattle.walrus_contents.specs.There.{IsWhole}
use Rattle.walrus_contents.specs.View.{parts_view}
use Rattle.walrus_model.proofs.Walked.{Walked}
use Rattle.walrus_contents.proofs.live.check_functions.Given as goal

-- the functions that aren't left are whole
abbrev pub invariant-loop-id : goal.invariant-loop-id
invariant-loop-id l =
    (goal.iterator-loop-id).can_next l.id-iterator
    × (goal.iterator-loop-id).is_finite l.id-iterator
    × Walked (λ i. IsWhole (parts_view l.parts) (Functions, i)) (functions l.parts.funcs.now) (function_entries_left l.id-iterator)
