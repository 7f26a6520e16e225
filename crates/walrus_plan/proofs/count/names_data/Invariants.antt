use Rattle.std.specs.Prelude.{◌≡◌, drop, map}
use Rattle.std.specs.List.{list_any}
use Rattle.walrus_code.specs.Code.{arg_of}
use Rattle.walrus_plan.specs.Count.{arg_is_data}
use Rattle.walrus_plan.proofs.count.names_data.Given as goal

-- none so far is a segment: whether one is shows in those that are still to come
abbrev pub invariant-loop-arg : goal.invariant-loop-arg
invariant-loop-arg l = list_any arg_is_data (map arg_of l.arg-items) ≡ list_any arg_is_data (map arg_of (drop l.arg-index l.arg-items))
