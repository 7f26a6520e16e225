use Rattle.wasm_forms.proofs.Spelled.{integer_stands, fits_from_mag}
use Rattle.wasm_forms.proofs.law.s32_spelling_stands.Goals as goal

pub returns : goal.returns
returns c = integer_stands c.args.value (fits_from_mag 2147483648 c.args.value c.ranges.value.sfits)
