use Rattle.std.proofs.Common.{drop}
use Rattle.wasm_text.proofs.Steps.{Going}
use Rattle.wasm_text.proofs.append.append_filled.Given as goal

abbrev pub invariant-marks : goal.invariant-marks
invariant-marks g l = Going (g.N.Numbers.number l.numbers) l.bytes l.marks (drop l.mark-index l.marks) l.run l.fn.to.items l.to.items
