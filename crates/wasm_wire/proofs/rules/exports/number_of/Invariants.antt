use Rattle.std.proofs.Common.{◌≡◌, take}
use Rattle.std.specs.List.{fold}
use Rattle.wasm_wire.specs.Keys.{mixed}
use Rattle.wasm_wire.proofs.rules.exports.number_of.Given as goal

-- the number of the bytes so far
abbrev pub invariant-bytes : goal.invariant-bytes
invariant-bytes l = l.number ≡ fold mixed 2_166_136_261 (take l.byte-index l.name)
