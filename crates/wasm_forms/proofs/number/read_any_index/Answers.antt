use Rattle.std.proofs.Common.{ap, sym, ◌∙◌}
use Rattle.std.specs.Prelude.{Some}
use Rattle.wasm_forms.proofs.Index.{index_lone, index_minus}
use Rattle.wasm_forms.proofs.number.read_any_index.Goals as goal

pub returns-then-first-lt64 : goal.returns-then-first-lt64
returns-then-first-lt64 c = index_lone c.args.first c.args.bytes.now c.if-first-lt64.true ∙ ap (λ k. Some (k, c.args.bytes.now)) (sym c.from.ensures)

pub returns-then-first-lt128 : goal.returns-then-first-lt128
returns-then-first-lt128 c = index_minus c.args.first c.args.bytes.now c.if-first-lt64.false c.if-first-lt128.true
