-- Locals that have the same indices in the output.
use Rattle.std.specs.Prelude.{◌≡◌, ◌≤◌, ◌<◌, ◌+◌, ℕ, Bool, true, false, List, Option, option_map, slice_index_or, unwrap_or}
use Rattle.walrus_base.specs.Arena.{item_at}
use Rattle.walrus_base.specs.Types.{ValType}
use Rattle.walrus_bodies.specs.Locals.{AreMarked}
use Rattle.walrus_functions.specs.DeclaredLocals.{rank}

-- the rank of a local's type, that of references where it isn't there
abbrev pub rank_at : List (Option (ValType ℕ)) → ℕ → ℕ
rank_at slots x = unwrap_or (option_map rank (item_at slots x)) 5

-- Of so many locals from a place on, each one behind the parameters is used, of no reference type, and of a type that goes behind those of the
-- ones before.
pub record KeepsIndices (slots : List (Option (ValType ℕ))) (flags : List Bool) (first params count : ℕ) : Type 0 where
  pub within : params ≤ count
  pub used : (i : ℕ) → params ≤ i → i < count → slice_index_or flags i false ≡ true
  pub low : (i : ℕ) → params ≤ i → i < count → rank_at slots (first + i) < 5
  pub rising : (i j : ℕ) → params ≤ i → i < j → j < count → rank_at slots (first + i) ≤ rank_at slots (first + j)

-- they keep their indices, whatever list has the flags of those that are used
abbrev pub StayInPlace : List (Option (ValType ℕ)) → List ℕ → ℕ → ℕ → ℕ → Type 0
StayInPlace slots used first params count = (flags : List Bool) → AreMarked first flags used → KeepsIndices slots flags first params count
