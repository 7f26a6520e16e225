use Rattle.std.proofs.Common.{◌≤◌, ◌+◌, ◌++◌, ◌∷◌, [], map, take}
use Rattle.walrus_base.specs.Id.{place}
use Rattle.walrus_base.specs.Locals.{locals}
use Rattle.walrus_base.specs.Value.{val_type}
use Rattle.walrus_functions.specs.Declaring.{group_of, AreRuns}
use Rattle.walrus_functions.specs.EmittedBody.{types_of}
use Rattle.walrus_functions.specs.Held.{held_at}
use Rattle.walrus_functions.proofs.groups.runs_from.Given as goal

-- the runs so far, the last of which may go on
abbrev pub invariant-loop-id : goal.invariant-loop-id
invariant-loop-id l = record {
  so_far : AreRuns (held_at (types_of (locals l.module_locals)) (place l.fn.first) ∷ map (λ id. held_at (types_of (locals l.module_locals)) (place id)) (take l.id-index l.rest)) (map group_of l.groups.items ++ (l.count, val_type l.current) ∷ []);
  few : l.count ≤ l.id-index + 1;
}
