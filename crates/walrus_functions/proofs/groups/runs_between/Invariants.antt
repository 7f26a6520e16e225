use Rattle.std.proofs.Common.{◌≤◌, ◌<◌, ◌-◌, ◌++◌, ◌∷◌, [], map}
use Rattle.std.specs.List.{range_with_len}
use Rattle.walrus_base.specs.Locals.{locals}
use Rattle.walrus_base.specs.Value.{val_type}
use Rattle.walrus_functions.specs.Declaring.{group_of, AreRuns}
use Rattle.walrus_functions.specs.EmittedBody.{types_of}
use Rattle.walrus_functions.specs.Held.{held_at}
use Rattle.walrus_functions.proofs.groups.runs_between.Given as goal

-- the runs so far, the last of which may go on
abbrev pub invariant-places : goal.invariant-places
invariant-places l = record {
  so_far : AreRuns (map (held_at (types_of (locals l.module_locals))) (range_with_len l.first (l.place - l.first))) (map group_of l.groups.items ++ (l.times, val_type l.last) ∷ []);
  few : l.times ≤ l.place - l.first;
  behind : l.first < l.place;
  within : l.place ≤ l.end;
}
