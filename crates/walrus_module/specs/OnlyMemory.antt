-- The only memory of a module.
use Rattle.std.specs.Prelude.{ℕ, List, [], ◌∷◌, Result, Ok, Err}
use Rattle.walrus_items.specs.declared.error.Error.{Error}
use Rattle.walrus_items.specs.declared.error.Error.TheVariants.{NoMemory, SeveralMemories}

-- the only one of these memories, by their own ids, or that there is none, or that there are several
abbrev pub only_memory : List ℕ → Result ℕ Error
only_memory [] = Err NoMemory
only_memory (y ∷ []) = Ok y
only_memory (y ∷ other ∷ rest) = Err SeveralMemories
