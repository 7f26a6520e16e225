use Rattle.std.proofs.Common.{◌≡◌, ◌≤◌, ◌+◌, ◌-◌, ◌*◌, pos, ◌-ℤ◌, to_z, of_z, w64, arith, sym, ap, ◌∙◌}
use Rattle.std.proofs.lemmas.Int.{ints, to_z_pos}
use Rattle.std.proofs.Math.Nat.{mul-le-mul_left}
use Rattle.wasm_forms.proofs.Turns.{value_room}
use Rattle.wasm_forms.proofs.Ends.{value_low, value_below}
use Rattle.wasm_forms.proofs.number.signed_value.Goals as goal

pub returns-then-last-lt64 : goal.returns-then-last-lt64
returns-then-last-lt64 c =
    let p = ap (λ k. c.args.scale * k) c.from.ensures in
    let r = value_room c.args.value c.args.scale c.args.last c.requires.small c.requires.low in
    to_z_pos w64 (c.args.value + c.args.scale * c.from.result) (omega arith) ∙ ap (λ k. pos (c.args.value + c.args.scale * k)) c.from.ensures ∙ sym (value_low c.args.value c.args.scale c.args.last c.if-last-lt64.true)

pub returns-else-last-lt64 : goal.returns-else-last-lt64
returns-else-last-lt64 c =
    let k = c.from-else-last-lt64.result in
    let g : 128 - k ≤ 64 = omega (arith, c.from-else-last-lt64.ensures, c.if-last-lt64.false) in
    let r : c.args.scale * (128 - k) ≤ c.args.scale * 64 = mul-le-mul_left c.args.scale g in
    let e : to_z w64 (of_z w64 (to_z w64 c.args.value -ℤ to_z w64 (c.args.scale * (128 - k)))) ≡ pos c.args.value -ℤ pos (c.args.scale * (128 - k)) = omega (arith, ints) in
    e ∙ ap (λ m. pos c.args.value -ℤ pos (c.args.scale * (128 - m))) c.from-else-last-lt64.ensures ∙ sym (value_below c.args.value c.args.scale c.args.last c.requires.small c.if-last-lt64.false c.requires.low)
