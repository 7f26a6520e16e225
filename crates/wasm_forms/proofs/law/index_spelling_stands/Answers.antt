use Rattle.wasm_forms.proofs.Spelled.{index_stands}
use Rattle.wasm_forms.proofs.law.index_spelling_stands.Goals as goal

pub returns : goal.returns
returns c = index_stands c.args.index c.ranges.index.fits
