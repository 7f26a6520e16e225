use Rattle.std.proofs.Common.{◌≡◌, ◌<◌, ◌^◌, length, take}
use Rattle.wasm_forms.specs.Spelling.{row_bytes}
use Rattle.wasm_writer.specs.Spelling.{tag_bytes}
use Rattle.wasm_writer.proofs.measuring.tags_len.Given as goal

abbrev pub invariant-tags : goal.invariant-tags
invariant-tags l = record {
  counted : l.total ≡ length (row_bytes tag_bytes (take l.tag-index l.tags));
  small : l.total < 2 ^ 32;
}
