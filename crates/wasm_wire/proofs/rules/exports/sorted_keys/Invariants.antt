use Rattle.std.proofs.Common.{◌≡◌, ◌++◌, drop, map}
use Rattle.wasm_wire.specs.Keys.{keys_from}
use Rattle.wasm_wire.proofs.rules.exports.sorted_keys.Given as goal

-- the keys so far, and those of what is left
abbrev pub invariant-exports : goal.invariant-exports
invariant-exports l = record {
  placed : l.place ≡ l.export-index;
  keyed : l.keys.items ++ keys_from l.place (map (λ e. e.name.now) (drop l.export-index l.exports)) ≡ keys_from 0 (map (λ e. e.name.now) l.exports);
}
