use Rattle.wasm_forms.proofs.Spelled.{long_number_stands}
use Rattle.wasm_forms.proofs.law.u64_spelling_stands.Goals as goal

pub returns : goal.returns
returns c = long_number_stands c.args.value c.ranges.value.fits
