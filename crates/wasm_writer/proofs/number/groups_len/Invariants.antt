use Rattle.wasm_writer.proofs.Lengths.{Counted}
use Rattle.wasm_writer.proofs.number.groups_len.Given as goal

abbrev pub invariant-groups : goal.invariant-groups
invariant-groups l = Counted l.stop l.number l.len l.left

abbrev pub decreases-groups : goal.decreases-groups
decreases-groups l = l.left
