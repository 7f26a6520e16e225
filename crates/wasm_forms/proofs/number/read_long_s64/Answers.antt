use Rattle.std.proofs.Common.{◌≡◌, w64, arith, refl, sym, ap, ◌∙◌, pos, ◌+ℤ◌, ◌*ℤ◌}
use Rattle.std.specs.Prelude.{Some}
use Rattle.std.proofs.lemmas.Int.{to_z-of_z}
use Rattle.wasm_forms.specs.Number.{last_of, fits}
use Rattle.wasm_forms.proofs.Ends.{integer_empty, integer_large, integer_fine, fits_mag, mag_from_fits}
use Rattle.wasm_forms.proofs.number.read_long_s64.Goals as goal

pub returns-in_default : goal.returns-in_default
returns-in_default c = integer_empty 10 9223372036854775808 c.take_groups-below.result.value c.take_groups-below.result.scale c.args.bytes.now c.take_groups-below.result.rest.now c.take_groups-below.ensures.signed c.in_default.ensures

pub returns-then-below : goal.returns-then-below
returns-then-below c =
    integer_fine 10 9223372036854775808 c.take_groups-below.result.value c.take_groups-below.result.scale c.in-Some.last c.signed_value.result c.args.bytes.now c.take_groups-below.result.rest.now c.in-Some.rest.now c.take_groups-below.ensures.signed c.in-Some.ensures.0
    c.signed_value.ensures (fits_mag 9223372036854775808 c.signed_value.result c.signed_value.type_inv)
    ∙ ap (λ k. Some (k, c.in-Some.rest.now)) (sym (to_z-of_z w64 c.signed_value.result (record { sfits = c.signed_value.type_inv })))

pub returns-in-Some-tenth_value : goal.returns-in-Some-tenth_value
returns-in-Some-tenth_value c =
    let inv = mag_from_fits 9223372036854775808 c.in-Some-tenth_value.value c.in-Some-tenth_value.ensures.1 in
    let s : 9223372036854775808 ≡ c.take_groups-below.result.scale = omega (arith, c.take_groups-below.ensures.scaled, c.if-below.false) in
    integer_fine 10 9223372036854775808 c.take_groups-below.result.value c.take_groups-below.result.scale c.in-Some.last c.in-Some-tenth_value.value c.args.bytes.now c.take_groups-below.result.rest.now c.in-Some.rest.now c.take_groups-below.ensures.signed c.in-Some.ensures.0
    (c.in-Some-tenth_value.ensures.0 ∙ ap (λ k. pos c.take_groups-below.result.value +ℤ pos k *ℤ last_of c.in-Some.last) s) (fits_mag 9223372036854775808 c.in-Some-tenth_value.value inv)
    ∙ ap (λ k. Some (k, c.in-Some.rest.now)) (sym (to_z-of_z w64 c.in-Some-tenth_value.value (record { sfits = inv })))

pub returns-in-None : goal.returns-in-None
returns-in-None c =
    let s : 9223372036854775808 ≡ c.take_groups-below.result.scale = omega (arith, c.take_groups-below.ensures.scaled, c.if-below.false) in
    integer_large 10 9223372036854775808 c.take_groups-below.result.value c.take_groups-below.result.scale c.in-Some.last (pos c.take_groups-below.result.value +ℤ pos c.take_groups-below.result.scale *ℤ last_of c.in-Some.last) c.args.bytes.now c.take_groups-below.result.rest.now c.in-Some.rest.now c.take_groups-below.ensures.signed c.in-Some.ensures.0
    refl (ap (λ k. fits 9223372036854775808 (pos c.take_groups-below.result.value +ℤ pos k *ℤ last_of c.in-Some.last)) (sym s) ∙ c.in-None.ensures)
