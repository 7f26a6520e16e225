use Rattle.wasm_text.proofs.Fitting.{behind_s32}
use Rattle.wasm_text.proofs.places.past_long_s32.Goals as goal

pub returns-then-behind : goal.returns-then-behind
returns-then-behind c = behind_s32 c.args.bytes.now c.args.at c.past_number-behind.result (λ i. (c.type_inv.bytes i).fits) c.past_number-behind.ensures c.if-behind.true
