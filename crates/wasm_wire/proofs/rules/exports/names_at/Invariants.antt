use Rattle.std.proofs.Common.{◌≡◌, map, take}
use Rattle.wasm_wire.specs.Keys.{name_at}
use Rattle.wasm_wire.proofs.rules.exports.names_at.Given as goal

-- the names of the keys so far
abbrev pub invariant-keys : goal.invariant-keys
invariant-keys l = map (λ n. n.now) l.names.items ≡ map (name_at (map (λ e. e.name.now) l.exports)) (take l.key-index l.keys)
