use Rattle.wasm_text.proofs.Fitting.{behind_s64}
use Rattle.wasm_text.proofs.places.past_long_s64.Goals as goal

pub returns-then-behind : goal.returns-then-behind
returns-then-behind c = behind_s64 c.args.bytes.now c.args.at c.past_number-behind.result (λ i. (c.type_inv.bytes i).fits) c.past_number-behind.ensures c.if-behind.true
