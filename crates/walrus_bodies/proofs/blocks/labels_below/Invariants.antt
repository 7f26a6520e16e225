use Rattle.std.proofs.Common.{◌≡◌, map, drop}
use Rattle.std.specs.List.{list_all}
use Rattle.walrus_code.specs.Code.{arg_of}
use Rattle.walrus_bodies.specs.Blocks.{label_below}
use Rattle.walrus_bodies.proofs.blocks.labels_below.Given as goal

-- the arguments that are left decide
abbrev pub invariant-loop-arg : goal.invariant-loop-arg
invariant-loop-arg l = list_all (label_below l.count) (map arg_of l.args) ≡ list_all (label_below l.count) (map arg_of (drop l.arg-index l.args))
