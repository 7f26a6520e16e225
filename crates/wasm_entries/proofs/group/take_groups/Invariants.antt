use Rattle.std.proofs.Common.{◌≡◌, ◌-◌, map}
use Rattle.wasm_forms.specs.Reading.{◌>>=◌}
use Rattle.wasm_forms.specs.Grammar.{at, row_at, behind}
use Rattle.wasm_entries.specs.Record.{group}
use Rattle.wasm_entries.specs.TypeForms.{group_form}
use Rattle.wasm_entries.proofs.group.take_groups.Given as goal

abbrev pub invariant-groups : goal.invariant-groups
invariant-groups l = row_at (at group_form) l.count l.bytes ≡ (row_at (at group_form) (l.count - l._taken) l.rest >>= behind (map group l.groups.items))
