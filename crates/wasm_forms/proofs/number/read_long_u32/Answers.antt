use Rattle.std.proofs.Common.{arith, sym, ap, ◌∙◌, ◌+◌, ◌*◌}
use Rattle.std.specs.Prelude.{Some}
use Rattle.wasm_forms.proofs.Ends.{number_empty, number_large, number_fine}
use Rattle.wasm_forms.proofs.number.read_long_u32.Goals as goal

pub returns-in_default : goal.returns-in_default
returns-in_default c = number_empty 5 4294967296 c.take_groups-groups.result.value c.take_groups-groups.result.scale c.args.bytes.now c.take_groups-groups.result.rest.now c.take_groups-groups.ensures.unsigned c.in_default.ensures

pub returns-then-value : goal.returns-then-value
returns-then-value c =
    number_large 5 4294967296 c.take_groups-groups.result.value c.take_groups-groups.result.scale c.in-Some.last c.args.bytes.now c.take_groups-groups.result.rest.now c.in-Some.rest.now c.take_groups-groups.ensures.unsigned c.in-Some.ensures.0 (omega (arith, ap (λ k. c.take_groups-groups.result.scale * k) c.from.ensures))

pub returns : goal.returns
returns c =
    number_fine 5 4294967296 c.take_groups-groups.result.value c.take_groups-groups.result.scale c.in-Some.last c.args.bytes.now c.take_groups-groups.result.rest.now c.in-Some.rest.now c.take_groups-groups.ensures.unsigned c.in-Some.ensures.0 (omega (arith, ap (λ k. c.take_groups-groups.result.scale * k) c.from.ensures))
    ∙ ap (λ k. Some (c.take_groups-groups.result.value + c.take_groups-groups.result.scale * k, c.in-Some.rest.now)) (sym c.from.ensures)
