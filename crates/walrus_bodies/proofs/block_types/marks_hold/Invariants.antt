use Rattle.std.proofs.Common.{drop}
use Rattle.walrus_bodies.specs.Blocks.{block_holds}
use Rattle.walrus_code.specs.FromRaw.{arg_of}
use Rattle.walrus_bodies.proofs.NamesShown.{Holding}
use Rattle.walrus_bodies.proofs.block_types.marks_hold.Given as goal

abbrev pub invariant-marks : goal.invariant-marks
invariant-marks g l = Holding (λ arg. block_holds (g.T.FunctionTypes.function_types l.types) (arg_of arg)) l.bytes l.marks (drop l.mark-index l.marks)
