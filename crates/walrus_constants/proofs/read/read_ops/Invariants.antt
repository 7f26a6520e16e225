use Rattle.std.proofs.Common.{◌≡◌, length, map, drop}
use Rattle.walrus_base.specs.ConstOps.{const_op}
use Rattle.walrus_code.specs.Indices.{ids_at}
use Rattle.walrus_model.specs.Constants.{consts_of}
use Rattle.walrus_constants.specs.Named.{named_const}
use Rattle.walrus_groups.proofs.Loops.{behind}
use Rattle.walrus_constants.proofs.read.read_ops.Given as goal

-- what was found so far and what is left are what is found for all; as many were found as were looked up
abbrev pub invariant-loop-op : goal.invariant-loop-op
invariant-loop-op l =
    (behind (map const_op l.found.items) (named_const (ids_at l.indices) (consts_of (drop l.op-index l.raw))) ≡ named_const (ids_at l.indices) (consts_of l.raw))
    × (length l.found.items ≡ l.op-index)
