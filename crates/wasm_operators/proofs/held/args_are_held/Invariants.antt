use Rattle.std.proofs.Common.{take}
use Rattle.wasm_forms.specs.Writing.{EachFits}
use Rattle.wasm_operators.specs.Standing.{ArgHeld}
use Rattle.wasm_operators.proofs.held.args_are_held.Given as goal

abbrev pub invariant-each : goal.invariant-each
invariant-each l = EachFits ArgHeld (take l.arg-index l.args)
