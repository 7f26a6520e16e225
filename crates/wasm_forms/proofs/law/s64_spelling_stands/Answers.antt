use Rattle.wasm_forms.proofs.Spelled.{long_integer_stands, fits_from_mag}
use Rattle.wasm_forms.proofs.law.s64_spelling_stands.Goals as goal

pub returns : goal.returns
returns c = long_integer_stands c.args.value (fits_from_mag 9223372036854775808 c.args.value c.ranges.value.sfits)
