use Rattle.std.proofs.Common.{◌≡◌, ◌≤◌, ◌<◌, ℕ, true, slice_index_or, false}
use Rattle.walrus_bodies.proofs.scan.ScanRoom.are_named.Given as goal

abbrev pub invariant-locals : goal.invariant-locals
invariant-locals l = (n : ℕ) → l.fn.self.unmarked.first ≤ n → n < l.index → slice_index_or l.fn.self.unmarked.named.items n false ≡ true
