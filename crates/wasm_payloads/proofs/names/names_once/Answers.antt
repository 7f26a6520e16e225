use Rattle.wasm_payloads.proofs.Agreed.{names_once_lem}
use Rattle.wasm_payloads.proofs.names.names_once.Goals as goal

pub returns : goal.returns
returns c = names_once_lem
