use Rattle.wasm_forms.proofs.Floats.{f32_stands}
use Rattle.wasm_forms.proofs.law.f32_spelling_stands.Goals as goal

pub returns : goal.returns
returns c = f32_stands c.args.bits c.ranges.bits.fits
