use Rattle.std.proofs.lemmas.Result.{err_from_is_err_and}
use Rattle.walrus_module.proofs.EmissionForms.{bytes_answered, bytes_refused}
use Rattle.walrus_module.proofs.emit.Module.emit_wasm.Goals as goal

pub returns-in_err-bytes : goal.returns-in_err-bytes
returns-in_err-bytes g c = let p = err_from_is_err_and c.from_residual.result c.from_residual.ensures.1 in rw (p.1, p.2) (bytes_refused _ _ _ _ _ c.in_err-bytes.ensures)

pub returns : goal.returns
returns g c = bytes_answered _ _ _ _ _ _ c.in_ok-bytes.ensures
