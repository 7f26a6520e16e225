use Rattle.wasm_forms.proofs.Exact.{exact}
use Rattle.wasm_forms.proofs.law.form_is_exact.Goals as goal

pub returns : goal.returns
returns g c = exact g.F.Formed.form
