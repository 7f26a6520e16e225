use Rattle.std.proofs.Common.{◌≡◌, ◌-◌, map}
use Rattle.wasm_forms.specs.Reading.{◌>>=◌}
use Rattle.wasm_forms.specs.Grammar.{at, row_at, behind}
use Rattle.wasm_forms.proofs.vector.take_row.Given as goal

abbrev pub invariant-elements : goal.invariant-elements
invariant-elements g l = row_at (at g.E.Element.form) l.count l.bytes ≡ (row_at (at g.E.Element.form) (l.count - l._taken) l.rest >>= behind (map g.E.Element.view l.items.items))
