use Rattle.wasm_forms.proofs.Exact.{one_reading}
use Rattle.wasm_forms.proofs.law.form_has_one_reading.Goals as goal

pub returns : goal.returns
returns g c = one_reading g.F.Formed.form
