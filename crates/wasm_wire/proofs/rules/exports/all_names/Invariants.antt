use Rattle.std.proofs.Common.{◌≡◌, map, take}
use Rattle.wasm_wire.proofs.rules.exports.all_names.Given as goal

-- the names so far
abbrev pub invariant-exports : goal.invariant-exports
invariant-exports l = map (λ n. n.now) l.names.items ≡ map (λ e. e.name.now) (take l.export-index l.exports)
