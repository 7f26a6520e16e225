use Rattle.std.proofs.Common.{◌≡◌, ◌++◌, take}
use Rattle.wasm_forms.specs.Spelling.{row_bytes}
use Rattle.wasm_operators.specs.Spelling.{arg_bytes}
use Rattle.wasm_operators.proofs.write.write_args.Given as goal

abbrev pub invariant-each : goal.invariant-each
invariant-each l = l.to.items ≡ l.fn.to.items ++ row_bytes arg_bytes (take l.arg-index l.args)
