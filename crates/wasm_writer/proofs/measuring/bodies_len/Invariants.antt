use Rattle.std.proofs.Common.{◌≡◌, ◌<◌, ◌^◌, take}
use Rattle.std.specs.Prelude.{sum_by}
use Rattle.wasm_writer.specs.Measuring.{size_with_count}
use Rattle.wasm_writer.proofs.measuring.bodies_len.Given as goal

abbrev pub invariant-bodies : goal.invariant-bodies
invariant-bodies l = record {
  summed : l.total ≡ sum_by size_with_count (take l.len-index l.lengths);
  small : l.total < 2 ^ 32;
}
