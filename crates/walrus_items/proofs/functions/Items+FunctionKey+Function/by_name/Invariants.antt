use Rattle.std.proofs.Common.{◌≡◌}
use Rattle.std.specs.Prelude.{find}
use Rattle.walrus_base.specs.Arena.{entries_left}
use Rattle.walrus_items.specs.Seen.{seen_entries}
use Rattle.walrus_items.specs.Searches.{first}
use Rattle.walrus_items.specs.Functions.{function_value, functions, is_called}
use Rattle.walrus_items.proofs.functions.«Items+FunctionKey+Function».by_name.Given as goal

-- the first one is the first of those that are still to come
abbrev pub invariant-loop-id : goal.invariant-loop-id
invariant-loop-id l =
    (goal.iterator-loop-id).can_next l.id-iterator
    × (goal.iterator-loop-id).is_finite l.id-iterator
    × (first (is_called l.name) (functions l.self)
    ≡ find (λ e. is_called l.name e.1) (seen_entries function_value (entries_left l.id-iterator)))
