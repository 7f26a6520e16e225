use Rattle.std.proofs.Common.{◌≡◌, ◌≤◌, ◌++◌, take, vec_capacity}
use Rattle.wasm_forms.specs.Writing.{EachFits}
use Rattle.wasm_forms.specs.Spelling.{row_bytes}
use Rattle.wasm_entries.specs.Record.{group}
use Rattle.wasm_entries.specs.TypeSpelling.{group_bytes, GroupFits}
use Rattle.wasm_entries.proofs.group.write_each.Given as goal

abbrev pub invariant-groups : goal.invariant-groups
invariant-groups l = record {
  written : l.to.items ≡ l.fn.to.items ++ row_bytes (λ g. group_bytes (group g)) (take l.types-index l.groups);
  fit : EachFits (λ g. GroupFits (group g)) (take l.types-index l.groups);
  room : vec_capacity l.fn.to ≤ vec_capacity l.to;
}
