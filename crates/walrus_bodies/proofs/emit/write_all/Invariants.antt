use Rattle.std.proofs.Common.{◌≡◌, ℕ, List, map, take}
use Rattle.walrus_code.specs.Code.{ops_of}
use Rattle.walrus_code.specs.Indices.{index_of, local_index}
use Rattle.walrus_bodies.specs.Results.{kept_if, locations}
use Rattle.walrus_bodies.specs.Writer.{AppendsAll}
use Rattle.walrus_bodies.proofs.emit.write_all.Given as goal

-- the operators so far are appended
abbrev pub invariant-loop-operator : goal.invariant-loop-operator
invariant-loop-operator l = record {
  appended : (places : List ℕ) × (AppendsAll (index_of l.indices) (local_index l.locals) (ops_of (take l.operator-index l.operators)) l.initial.to.items l.to.items places × (map (λ p. p.1) l.placed.items ≡ kept_if l.asks_places places));
  located : map (λ p. p.0) l.placed.items ≡ kept_if l.asks_places (locations (take l.operator-index l.operators));
}
