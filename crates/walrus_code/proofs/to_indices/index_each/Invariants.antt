use Rattle.std.proofs.Common.{◌≡◌, map, drop, All}
use Rattle.walrus_code.specs.Code.{arg_of}
use Rattle.walrus_code.specs.FromRaw as from_raw
use Rattle.walrus_code.specs.Indices.{index_of, local_index}
use Rattle.walrus_code.specs.Names.{named_args}
use Rattle.walrus_code.specs.Results.{args_are_exact}
use Rattle.walrus_code.specs.Stands.{ArgStands}
use Rattle.walrus_code.proofs.Arguments.{behind}
use Rattle.walrus_code.proofs.to_indices.index_each.Given as goal

-- the arguments so far and those that are left are the arguments of the whole; those so far can be spelled
abbrev pub invariant-loop-arg : goal.invariant-loop-arg
invariant-loop-arg l =
    (behind (map from_raw.arg_of l.raw.items) (named_args (index_of l.indices) (local_index l.locals) (map arg_of (drop l.arg-index l.args))) ≡ named_args (index_of l.indices) (local_index l.locals) (map arg_of l.args))
    × (args_are_exact (map arg_of (drop l.arg-index l.args)) ≡ args_are_exact (map arg_of l.args))
    × All ArgStands l.raw.items
