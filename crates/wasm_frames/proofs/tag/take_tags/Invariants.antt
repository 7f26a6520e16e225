use Rattle.std.proofs.Common.{◌≡◌, ◌-◌}
use Rattle.wasm_forms.specs.Reading.{◌>>=◌}
use Rattle.wasm_forms.specs.Grammar.{at, row_at, behind}
use Rattle.wasm_entries.specs.TypeForms.{tag_type}
use Rattle.wasm_frames.proofs.tag.take_tags.Given as goal

abbrev pub invariant-reading : goal.invariant-reading
invariant-reading l = row_at (at tag_type) l.count l.bytes ≡ (row_at (at tag_type) (l.count - l._taken) l.rest >>= behind l.tags.items)
