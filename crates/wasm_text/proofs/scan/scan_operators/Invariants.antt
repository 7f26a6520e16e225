use Rattle.std.proofs.Common.{◌≡◌, ◌-◌, ◌<◌, ◌≤◌, length}
use Rattle.std.specs.Prelude.{vec_capacity, vec_len}
use Rattle.wasm_text.specs.Bodies.{blocks_of}
use Rattle.wasm_text.proofs.Bodies.{UpTo}
use Rattle.wasm_text.proofs.scan.scan_operators.Given as goal

-- the operators so far, each of a byte or more; the limits hold as many labels as blocks are open, and there are such; and there is room for a mark
-- of each byte and one more; and the first local without a mark is the same
abbrev pub invariant-operators : goal.invariant-operators
invariant-operators l =
    record {
      so_far : UpTo l.limits l.unmarked l.bytes l.marks.items l.count l.at (blocks_of l.opened);
      here : l.here ≡ record l.limits { labels = vec_len l.opened };
      unclosed : 0 < vec_len l.opened;
      passed : l.count ≤ l.at;
      room : length l.bytes < vec_capacity l.marks;
      first : l.unmarked.first ≡ l.fn.unmarked.first;
    }

-- the bytes behind
abbrev pub decreases-operators : goal.decreases-operators
decreases-operators l = length l.bytes - l.at
