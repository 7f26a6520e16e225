use Rattle.std.proofs.Common.{◌≡◌, ◌<◌, to_z, of_z, w32, w64, sym, ap, subst, ◌∙◌}
use Rattle.std.proofs.lemmas.Int.{to_z-of_z}
use Rattle.std.specs.Prelude.{Some}
use lib.Signed.{mag}
use Rattle.wasm_forms.proofs.Ends.{integer_empty, integer_large, integer_fine, fits_mag, fits_not}
use Rattle.wasm_forms.proofs.number.read_any_s32.Goals as goal

pub returns-in_default : goal.returns-in_default
returns-in_default c = integer_empty 5 2147483648 c.take_groups-front.result.value c.take_groups-front.result.scale c.args.bytes.now c.take_groups-front.result.rest.now c.take_groups-front.ensures.signed c.in_default.ensures

pub returns-in-Ok : goal.returns-in-Ok
returns-in-Ok c =
    let z = c.signed_value-value.result in
    let same : to_z w64 (of_z w64 z) ≡ z = to_z-of_z w64 z (record { sfits = c.signed_value-value.type_inv }) in
    let small : mag z < 2147483648 = subst (λ y. mag y < 2147483648) same c.in-Ok.ensures.0.sfits in
    let told = c.in-Ok.ensures.1 ∙ same in
    let kept : to_z w32 (of_z w32 c.in-Ok.value) ≡ z = to_z-of_z w32 c.in-Ok.value (record { sfits = subst (λ y. mag y < 2147483648) (sym told) small }) ∙ told in
    integer_fine 5 2147483648 c.take_groups-front.result.value c.take_groups-front.result.scale c.in-Some.last z c.args.bytes.now c.take_groups-front.result.rest.now c.in-Some.rest.now c.take_groups-front.ensures.signed c.in-Some.ensures.0 c.signed_value-value.ensures (fits_mag 2147483648 z small)
    ∙ ap (λ k. Some (k, c.in-Some.rest.now)) (sym kept)

pub returns-in-Err : goal.returns-in-Err
returns-in-Err c =
    let z = c.signed_value-value.result in
    let same : to_z w64 (of_z w64 z) ≡ z = to_z-of_z w64 z (record { sfits = c.signed_value-value.type_inv }) in
    integer_large 5 2147483648 c.take_groups-front.result.value c.take_groups-front.result.scale c.in-Some.last z c.args.bytes.now c.take_groups-front.result.rest.now c.in-Some.rest.now c.take_groups-front.ensures.signed c.in-Some.ensures.0 c.signed_value-value.ensures
    (fits_not 2147483648 z (λ small. c.in-Err.ensures (record { sfits = subst (λ y. mag y < 2147483648) (sym same) small })))
