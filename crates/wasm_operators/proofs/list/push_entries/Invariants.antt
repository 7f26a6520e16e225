use Rattle.std.proofs.Common.{◌≡◌, ◌-◌, flat_map}
use Rattle.wasm_forms.specs.Grammar.{Made, Row}
use Rattle.wasm_operators.specs.Pushing.{push_at}
use Rattle.wasm_operators.proofs.list.push_entries.Given as goal

abbrev pub invariant-entries : goal.invariant-entries
invariant-entries g l =
    push_at l.fn.to.items (Made (flat_map g.E.Entry.make) (Row g.E.Entry.form l.count)) l.bytes ≡ push_at l.to.items (Made (flat_map g.E.Entry.make) (Row g.E.Entry.form (l.count - l._taken))) l.rest
