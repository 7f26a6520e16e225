use Rattle.wasm_forms.proofs.Floats.{little_short, four_found}
use Rattle.wasm_forms.proofs.float.take_f32.Goals as goal

pub returns-in_default : goal.returns-in_default
returns-in_default c = little_short 4 c.args.bytes.now c.in_default.len_below

pub returns-in-len4-up : goal.returns-in-len4-up
returns-in-len4-up c = four_found c.args.bytes.now c.from_le_bytes.result c.in-len4-up.len_at_least c.from_le_bytes.ensures
