use Rattle.wasm_wire.specs.Keys.{mixed}
use Rattle.wasm_wire.proofs.Keys.{mixed_more}
use Rattle.wasm_wire.proofs.rules.exports.number_of.Goals as goal

pub bytes-preserved : goal.bytes-preserved
unfolding mixed
bytes-preserved c =
    mixed_more c.args.name.now c.as_bytes-byte-items.result.now c.bytes.byte-index c.bytes.number c.from.result c.as_bytes-byte-items.ensures.value
    c.bytes-test.true c.from.ensures c.bytes.invariant
