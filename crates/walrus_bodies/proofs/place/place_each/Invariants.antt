use Rattle.std.proofs.Common.{◌≡◌, ◌++◌, map, drop}
use Rattle.walrus_code.specs.Code.{arg_of}
use Rattle.walrus_code.specs.FromRaw as from_raw
use Rattle.walrus_bodies.specs.Placed.{moved_arg}
use Rattle.walrus_bodies.proofs.place.place_each.Given as goal

-- what was found and what is left to find are the whole
abbrev pub invariant-loop-arg : goal.invariant-loop-arg
invariant-loop-arg l = map arg_of l.found.items ++ map (moved_arg l.first_local) (map from_raw.arg_of (drop l.arg-index l.args)) ≡ map (moved_arg l.first_local) (map from_raw.arg_of l.args)
