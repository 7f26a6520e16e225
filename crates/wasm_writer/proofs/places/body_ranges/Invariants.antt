-- The ranges so far, and behind them those of the bodies that are left, are those of all.
use Rattle.std.proofs.Common.{◌≡◌, ◌+◌, ◌≤◌, ◌++◌, length, drop}
use Rattle.wasm_writer.proofs.Ranges.{ranges_from, bytes_from}
use Rattle.wasm_writer.proofs.places.body_ranges.Given as goal

abbrev pub invariant-bodies : goal.invariant-bodies
invariant-bodies l = record {
  found : ranges_from l.first l.bodies ≡ l.ranges.items ++ ranges_from l.place (drop l.body-index l.bodies);
  onward : l.first ≤ l.place;
  left : l.place + length (bytes_from (drop l.body-index l.bodies)) ≡ l.first + length (bytes_from l.bodies);
}
