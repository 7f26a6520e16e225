use Rattle.std.proofs.Common.{◌≡◌, map, drop}
use Rattle.walrus_code.specs.Code.{arg_of}
use Rattle.walrus_code.specs.FromRaw as from_raw
use Rattle.walrus_code.specs.Indices.{ids_at}
use Rattle.walrus_code.specs.Names.{named_args}
use Rattle.walrus_code.specs.Results.{locals_at}
use Rattle.walrus_code.proofs.Arguments.{behind}
use Rattle.walrus_code.proofs.to_ids.name_each.Given as goal

-- the arguments so far and those that are left are the arguments of the whole
abbrev pub invariant-loop-arg : goal.invariant-loop-arg
invariant-loop-arg l = behind (map arg_of l.found.items) (named_args (ids_at l.indices) (locals_at l.locals) (map from_raw.arg_of (drop l.arg-index l.args))) ≡ named_args (ids_at l.indices) (locals_at l.locals) (map from_raw.arg_of l.args)
