use Rattle.std.proofs.Common.{◌≤◌, vec_capacity}
use Rattle.wasm_forms.proofs.Groups.{Partway}
use Rattle.wasm_forms.proofs.write.write_groups.Given as goal

abbrev pub invariant-groups : goal.invariant-groups
invariant-groups l = record {
  way : Partway l.fn.to.items l.to.items l.below l.stop l.number l.left;
  room : vec_capacity l.fn.to ≤ vec_capacity l.to;
}

abbrev pub decreases-groups : goal.decreases-groups
decreases-groups l = l.left
