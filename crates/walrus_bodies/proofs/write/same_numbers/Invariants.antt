use Rattle.std.proofs.Common.{◌≡◌, ◌+◌, ◌<◌, ◌≤◌, ℕ, None, Some}
use Rattle.walrus_code.specs.Indices.{local_index, locals_given}
use Rattle.walrus_bodies.proofs.write.same_numbers.Given as goal

-- those so far have their indices, and those behind them none
abbrev pub invariant-locals : goal.invariant-locals
invariant-locals l =
    (locals_given l.numbers ≡ l.offset)
    × ((i : ℕ) → i < l.offset → local_index l.numbers (l.first + i) ≡ Some i)
    × ((i : ℕ) → l.offset ≤ i → local_index l.numbers (l.first + i) ≡ None)
