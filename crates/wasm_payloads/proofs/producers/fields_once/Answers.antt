use Rattle.wasm_payloads.proofs.Agreed.{fields_once_lem}
use Rattle.wasm_payloads.proofs.producers.fields_once.Goals as goal

pub returns : goal.returns
returns c = fields_once_lem
