use Rattle.std.proofs.Common.{◌≡◌, ◌<◌, ◌-◌, ◌^◌, drop}
use Rattle.wasm_text.proofs.NumberPlaces.{Passed}
use Rattle.wasm_text.proofs.places.long_number_at.Given as goal

abbrev pub invariant-groups : goal.invariant-groups
invariant-groups l = record {
  passed : Passed 5 (5 - l._group) (drop l.at l.bytes) (drop l.place l.bytes) l.value l.scale;
  small : l.value < l.scale;
  power : l.scale ≡ 128 ^ l._group;
}
