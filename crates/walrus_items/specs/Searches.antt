-- Searches of a collection by the order of its ids.
use Rattle.std.specs.Prelude.{◌≡◌, ℕ, Bool, List, Option, Some, None, Result, IsOk, IsErrOf, find, slice_set}
use Rattle.walrus_base.specs.Arena.{entries}
use Rattle.walrus_items.specs.declared.error.Error.{Error}
use Rattle.walrus_items.specs.declared.error.Error.TheVariants.{NotFound}

-- the first live item that passes, with its place
abbrev pub first : {T : Type 0} → (T → Bool) → List (Option T) → Option (ℕ × T)
first passes slots = find (λ e. passes e.1) (entries slots)

-- the item that was found is gone, and nothing else is; where none was found, that is the answer and all stays
abbrev pub RemovesFound : {T A : Type 0} → Option (ℕ × T) → List (Option T) → List (Option T) → Result A Error → Type 0
RemovesFound None old new result = IsErrOf result NotFound × (new ≡ old)
RemovesFound (Some e) old new result = IsOk result × (new ≡ slice_set old e.0 None)
