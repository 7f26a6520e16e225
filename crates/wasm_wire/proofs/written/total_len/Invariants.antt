use Rattle.std.proofs.Common.{take}
use Rattle.std.specs.Prelude.{sum}
use Rattle.wasm_wire.specs.ModuleWriting.{IsUnlessHuge}
use Rattle.wasm_wire.proofs.written.total_len.Given as goal

abbrev pub invariant-lengths : goal.invariant-lengths
invariant-lengths l = IsUnlessHuge l.total (sum (take l.len-index l.lengths))
