use Rattle.wasm_forms.proofs.Spelled.{number_stands}
use Rattle.wasm_forms.proofs.law.u32_spelling_stands.Goals as goal

pub returns : goal.returns
returns c = number_stands c.args.value c.ranges.value.fits
