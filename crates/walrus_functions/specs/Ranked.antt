-- Locals, each with its type, by the ranks of their types.
use Rattle.std.specs.Prelude.{◌++◌, ℕ, zero, suc, Bool, List, [], filter, nat_eq}
use Rattle.walrus_base.specs.Value.{val_type}
use Rattle.walrus_base.specs.declared.value.ValType.{ValType as DeclaredValType}
use Rattle.walrus_functions.specs.DeclaredLocals.{rank}

-- whether the local's type has this rank
abbrev pub has_rank : ℕ → ℕ × DeclaredValType → Bool
has_rank r e = nat_eq (rank (val_type e.1)) r

-- those whose types have this rank, in their order
abbrev pub of_rank : ℕ → List (ℕ × DeclaredValType) → List (ℕ × DeclaredValType)
of_rank r found = filter (has_rank r) found

-- those whose types have lower ranks than this one, rank by rank
abbrev pub by_ranks : ℕ → List (ℕ × DeclaredValType) → List (ℕ × DeclaredValType)
by_ranks zero found = []
by_ranks (suc r) found = by_ranks r found ++ of_rank r found
