use Rattle.std.proofs.Common.{◌≡◌, ◌≤◌, ◌++◌, take, vec_capacity}
use Rattle.wasm_forms.specs.Spelling.{row_bytes}
use Rattle.wasm_writer.specs.Spelling.{tag_bytes}
use Rattle.wasm_writer.proofs.tag.write_each.Given as goal

abbrev pub invariant-tags : goal.invariant-tags
invariant-tags l = record {
  written : l.to.items ≡ l.fn.to.items ++ row_bytes tag_bytes (take l.tag-index l.tags);
  room : vec_capacity l.fn.to ≤ vec_capacity l.to;
}
