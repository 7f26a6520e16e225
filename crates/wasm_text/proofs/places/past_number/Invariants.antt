use Rattle.std.proofs.Common.{◌≤◌, ◌-◌, ℕ, drop}
use Rattle.wasm_text.proofs.NumberPlaces.{Passed}
use Rattle.wasm_text.proofs.places.past_number.Given as goal

abbrev pub invariant-groups : goal.invariant-groups
invariant-groups l = record {
  forward : l.at ≤ l.place;
  passed : (value : ℕ) × ((scale : ℕ) × Passed l.most (l.most - l._group) (drop l.at l.bytes) (drop l.place l.bytes) value scale);
}
