use Rattle.std.proofs.Common.{◌≡◌, ◌<◌, ◌^◌, length, take}
use Rattle.wasm_forms.specs.Writing.{EachFits}
use Rattle.wasm_forms.specs.Spelling.{row_bytes}
use Rattle.wasm_entries.specs.Record.{group}
use Rattle.wasm_entries.specs.TypeSpelling.{group_bytes, GroupFits}
use Rattle.wasm_writer.proofs.composite.measured_each.Given as goal

abbrev pub invariant-groups : goal.invariant-groups
invariant-groups l = record {
  counted : l.total ≡ length (row_bytes (λ g. group_bytes (group g)) (take l.types-index l.groups));
  small : l.total < 2 ^ 32;
  fit : EachFits (λ g. GroupFits (group g)) (take l.types-index l.groups);
}
