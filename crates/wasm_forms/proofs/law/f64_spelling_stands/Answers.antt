use Rattle.wasm_forms.proofs.Floats.{f64_stands}
use Rattle.wasm_forms.proofs.law.f64_spelling_stands.Goals as goal

pub returns : goal.returns
returns c = f64_stands c.args.bits c.ranges.bits.fits
