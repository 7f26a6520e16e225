use Rattle.std.proofs.Common.{◌≡◌, ◌+◌, ◌-◌, ◌*◌, arith, ap, ap₂, sym, ◌∙◌}
use Rattle.std.specs.Prelude.{Some}
use Rattle.wasm_forms.proofs.Index.{index_empty, index_negative, index_large, index_fine}
use Rattle.wasm_forms.proofs.number.read_long_index.Goals as goal

pub returns-in_default : goal.returns-in_default
returns-in_default c = index_empty c.args.first c.take_groups-high.result.value c.take_groups-high.result.scale c.args.bytes.now c.take_groups-high.result.rest.now c.requires c.take_groups-high.ensures.signed c.in_default.ensures

pub returns-then-last-ge64 : goal.returns-then-last-ge64
returns-then-last-ge64 c =
    index_negative c.args.first c.take_groups-high.result.value c.take_groups-high.result.scale c.in-Some.last c.args.bytes.now c.take_groups-high.result.rest.now c.in-Some.rest.now c.requires c.ranges.first.fits c.take_groups-high.ensures.small c.take_groups-high.ensures.signed c.in-Some.ensures.0
    c.if-last-ge64.true c.in-Some.ensures.1

pub returns-then-number : goal.returns-then-number
returns-then-number c =
    let same : c.from.result - 128 + 128 * (c.take_groups-high.result.value + c.take_groups-high.result.scale * c.from-2.result) ≡ c.args.first - 128 + 128 * (c.take_groups-high.result.value + c.take_groups-high.result.scale * c.in-Some.last) = ap₂ (λ b k. b - 128 + 128 * (c.take_groups-high.result.value + c.take_groups-high.result.scale * k)) c.from.ensures c.from-2.ensures in
    index_large c.args.first c.take_groups-high.result.value c.take_groups-high.result.scale c.in-Some.last c.args.bytes.now c.take_groups-high.result.rest.now c.in-Some.rest.now c.requires c.take_groups-high.ensures.signed c.in-Some.ensures.0
    c.if-last-ge64.false (omega (arith, same, c.if-number.true))

pub returns : goal.returns
returns c =
    let same : c.from.result - 128 + 128 * (c.take_groups-high.result.value + c.take_groups-high.result.scale * c.from-2.result) ≡ c.args.first - 128 + 128 * (c.take_groups-high.result.value + c.take_groups-high.result.scale * c.in-Some.last) = ap₂ (λ b k. b - 128 + 128 * (c.take_groups-high.result.value + c.take_groups-high.result.scale * k)) c.from.ensures c.from-2.ensures in
    index_fine c.args.first c.take_groups-high.result.value c.take_groups-high.result.scale c.in-Some.last c.args.bytes.now c.take_groups-high.result.rest.now c.in-Some.rest.now c.requires c.take_groups-high.ensures.signed c.in-Some.ensures.0
    c.if-last-ge64.false (omega (arith, same, c.if-number.false)) ∙ ap (λ k. Some (k, c.in-Some.rest.now)) (sym same)
