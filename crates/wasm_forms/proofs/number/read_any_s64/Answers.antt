use Rattle.std.proofs.Common.{w64, sym, ap, ◌∙◌}
use Rattle.std.specs.Prelude.{Some}
use Rattle.std.proofs.lemmas.Int.{to_z-of_z}
use Rattle.wasm_forms.specs.Number.{sleb_at}
use Rattle.wasm_forms.proofs.Turns.{signed_start, signed_stop}
use Rattle.wasm_forms.proofs.Ends.{integer_fine, fits_mag, last_stops}
use Rattle.wasm_forms.proofs.number.read_any_s64.Goals as goal

pub returns-in-Some : goal.returns-in-Some
returns-in-Some c =
    integer_fine 10 9223372036854775808 0 1 c.in-Some.last c.signed_value.result c.args.bytes.now c.args.bytes.now c.in-Some.rest.now
    (signed_start (sleb_at 10 c.args.bytes.now) ∙ signed_stop 9 0 1 c.args.bytes.now (last_stops c.args.bytes.now c.in-Some.rest.now c.in-Some.last c.in-Some.ensures.0)) c.in-Some.ensures.0
    c.signed_value.ensures (fits_mag 9223372036854775808 c.signed_value.result c.signed_value.type_inv)
    ∙ ap (λ k. Some (k, c.in-Some.rest.now)) (sym (to_z-of_z w64 c.signed_value.result (record { sfits = c.signed_value.type_inv })))
