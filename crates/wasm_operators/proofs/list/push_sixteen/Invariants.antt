use Rattle.std.proofs.Common.{◌≡◌, ◌++◌, take, map}
use Rattle.wasm_operators.specs.declared.operator.RawArg.TheVariants as args
use Rattle.wasm_operators.proofs.list.push_sixteen.Given as goal

abbrev pub invariant-sixteen : goal.invariant-sixteen
invariant-sixteen l = l.to.items ≡ l.fn.to.items ++ map args.Byte (take l.byte-index l.sixteen)
