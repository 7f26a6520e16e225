use Rattle.std.proofs.Common.{◌≡◌, drop}
use Rattle.wasm_forms.specs.Grammar.{at}
use Rattle.wasm_operators.specs.Forms.{args_form}
use Rattle.wasm_operators.specs.Pushing.{push_at}
use Rattle.wasm_operators.specs.Table.{listed}
use Rattle.wasm_operators.proofs.read.read_several.Given as goal

abbrev pub invariant-kinds : goal.invariant-kinds
invariant-kinds l = at (args_form (listed l.listed_kinds)) l.bytes ≡ push_at l.args.items (args_form (listed (drop l.kind-index l.listed_kinds))) l.rest
