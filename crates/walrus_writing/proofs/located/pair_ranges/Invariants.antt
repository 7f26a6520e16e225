use Rattle.std.proofs.Common.{◌≡◌, ◌++◌, drop, map}
use Rattle.std.specs.Prelude.{zip}
use Rattle.walrus_base.specs.Id.{place}
use Rattle.walrus_writing.specs.Located.{ends_of}
use Rattle.walrus_writing.proofs.located.pair_ranges.Given as goal

-- the functions so far with their ranges, and those that are still to come
abbrev pub invariant-order : goal.invariant-order
invariant-order l = record {
  counted : l.index ≡ l.id-index;
  listed : map (λ e. (place e.0, e.1)) l.pairs.items ++ zip (map place (drop l.id-index l.order)) (map ends_of (drop l.id-index l.ranges)) ≡ zip (map place l.order) (map ends_of l.ranges);
}
