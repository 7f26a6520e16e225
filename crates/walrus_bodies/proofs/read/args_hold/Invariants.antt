use Rattle.std.proofs.Common.{◌≡◌, map, drop}
use Rattle.std.specs.List.{list_all}
use Rattle.walrus_code.specs.Code.{arg_of}
use Rattle.walrus_bodies.specs.Blocks.{block_holds}
use Rattle.walrus_bodies.proofs.read.args_hold.Given as goal

-- the arguments that are left decide
abbrev pub invariant-loop-arg : goal.invariant-loop-arg
invariant-loop-arg g l = let holds = block_holds (g.T.FunctionTypes.function_types l.types) in list_all holds (map arg_of l.args) ≡ list_all holds (map arg_of (drop l.arg-index l.args))
