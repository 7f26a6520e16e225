use Rattle.std.proofs.Common.{arith, ap, sym, ◌∙◌}
use Rattle.std.specs.Prelude.{Some}
use Rattle.wasm_forms.proofs.Ends.{number_first}
use Rattle.wasm_forms.proofs.number.read_any_u64.Goals as goal

pub returns-in-Some : goal.returns-in-Some
returns-in-Some c = number_first 9 18446744073709551616 c.in-Some.last c.args.bytes.now c.in-Some.rest.now c.in-Some.ensures.0 (omega arith) ∙ ap (λ k. Some (k, c.in-Some.rest.now)) (sym c.from.ensures)
