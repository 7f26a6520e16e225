use Rattle.std.proofs.Common.{◌≡◌, ◌≤◌, ◌<◌, ◌+◌, ℕ, []}
use Rattle.std.specs.Prelude.{IsSome}
use Rattle.walrus_contents.specs.Named.{local_type_names, type_at}
use Rattle.walrus_contents.proofs.names.locals_name_nothing.Given as goal

-- those before name nothing
abbrev pub invariant-locals : goal.invariant-locals
invariant-locals l = (x : ℕ) → l.first ≤ x → x < l.first + l.offset → IsSome (type_at l.fn.locals x) × (local_type_names l.fn.locals x ≡ [])
