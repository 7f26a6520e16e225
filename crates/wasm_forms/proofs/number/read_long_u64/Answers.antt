use Rattle.std.proofs.Common.{◌<◌, arith, sym, ap, ◌∙◌, ◌+◌, ◌*◌}
use Rattle.std.specs.Prelude.{Some}
use Rattle.wasm_forms.proofs.Ends.{number_empty, number_large, number_fine, nine_full, nine_above, nine_room}
use Rattle.wasm_forms.proofs.number.read_long_u64.Goals as goal
use Rattle.wasm_forms.proofs.number.read_long_u64.Goals.{else-last-gt1-via-then-last-gt1+else-nine, else-last-gt1-via-else-last-gt1}

pub returns-in_default : goal.returns-in_default
returns-in_default c = number_empty 10 18446744073709551616 c.take_groups-nine.result.value c.take_groups-nine.result.scale c.args.bytes.now c.take_groups-nine.result.rest.now c.take_groups-nine.ensures.unsigned c.in_default.ensures

pub returns-then-nine : goal.returns-then-nine
returns-then-nine c =
    number_large 10 18446744073709551616 c.take_groups-nine.result.value c.take_groups-nine.result.scale c.in-Some.last c.args.bytes.now c.take_groups-nine.result.rest.now c.in-Some.rest.now c.take_groups-nine.ensures.unsigned c.in-Some.ensures.0
    (nine_above c.take_groups-nine.result.value c.take_groups-nine.result.scale c.in-Some.last c.if-nine.true c.if-last-gt1.true)

pub returns : goal.returns
returns c =
    let v = c.take_groups-nine.result.value in
    let s = c.take_groups-nine.result.scale in
    let room : v + s * c.in-Some.last < 18446744073709551616 = elim c.else-last-gt1.branch [
      | else-last-gt1-via-then-last-gt1+else-nine w ↦ nine_room v s c.in-Some.last c.take_groups-nine.ensures.small c.in-Some.ensures.1 w.if-nine.false c.take_groups-nine.ensures.stepped
      | else-last-gt1-via-else-last-gt1 w ↦ nine_full v s c.in-Some.last c.take_groups-nine.ensures.small c.take_groups-nine.ensures.scaled (omega (arith, w.if-last-gt1.false))
    ] in
    number_fine 10 18446744073709551616 v s c.in-Some.last c.args.bytes.now c.take_groups-nine.result.rest.now c.in-Some.rest.now c.take_groups-nine.ensures.unsigned c.in-Some.ensures.0 room
    ∙ ap (λ k. Some (v + s * k, c.in-Some.rest.now)) (sym c.from.ensures)
