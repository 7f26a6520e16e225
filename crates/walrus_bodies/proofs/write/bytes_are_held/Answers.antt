use Rattle.walrus_bodies.proofs.write.bytes_are_held.Goals as goal
use Rattle.wasm_text.proofs.Between.{bytes_of}

pub returns : goal.returns
returns c = bytes_of c.args.bytes.now (λ i. (c.type_inv.bytes i).fits)
