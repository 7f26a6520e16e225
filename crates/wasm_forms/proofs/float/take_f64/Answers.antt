use Rattle.wasm_forms.proofs.Floats.{little_short, eight_found}
use Rattle.wasm_forms.proofs.float.take_f64.Goals as goal

pub returns-in_default : goal.returns-in_default
returns-in_default c = little_short 8 c.args.bytes.now c.in_default.len_below

pub returns-in-len8-up : goal.returns-in-len8-up
returns-in-len8-up c = eight_found c.args.bytes.now c.from_le_bytes.result c.in-len8-up.len_at_least c.from_le_bytes.ensures
