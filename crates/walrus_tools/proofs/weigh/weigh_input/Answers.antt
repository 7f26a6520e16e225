use Rattle.std.proofs.Common.{ap, ◌∙◌, arith}
use Rattle.std.proofs.lemmas.Result.{err_from_is_err_and}
use Rattle.walrus.specs.Items.Functions.{functions}
use Rattle.walrus_tools.specs.Weigh.{is_debug, is_dropped}
use Rattle.walrus_tools.specs.WeighSteps.{is_left, sizes}
use Rattle.walrus_tools.proofs.PartSizes.{bodies_fit, debug_fits, sizes_are}
use Rattle.walrus_tools.proofs.weigh.weigh_input.Goals as goal

pub weigh_parts-requires-clause-bodies : goal.weigh_parts-requires-clause-bodies
weigh_parts-requires-clause-bodies c =
    let left = is_left (functions c.args.all.now) in
    omega (arith, ap (sizes (is_dropped left)) c.deref.ensures.value, sizes_are (is_dropped left) c.in_ok-parts.parts.items, bodies_fit left c.args.bytes.now _ c.in_ok-parts.ensures)

pub weigh_parts-requires-clause-debug : goal.weigh_parts-requires-clause-debug
weigh_parts-requires-clause-debug c = omega (arith, ap (sizes is_debug) c.deref.ensures.value, sizes_are is_debug c.in_ok-parts.parts.items, debug_fits c.args.bytes.now _ c.in_ok-parts.ensures)

pub returns-in_err-parts : goal.returns-in_err-parts
returns-in_err-parts c =
    let p = err_from_is_err_and c.from_residual.result c.from_residual.ensures.1 in
    rw (p.1, p.2) c.in_err-parts.ensures

pub returns : goal.returns
returns c = record {
  parts = _;
  has = c.in_ok-parts.ensures;
  bodies_are = c.weigh_parts.ensures.bodies ∙ ap (sizes (is_dropped (is_left (functions c.args.all.now)))) c.deref.ensures.value ∙ sizes_are (is_dropped (is_left (functions c.args.all.now))) c.in_ok-parts.parts.items;
  debug_is = c.weigh_parts.ensures.debug ∙ ap (sizes is_debug) c.deref.ensures.value ∙ sizes_are is_debug c.in_ok-parts.parts.items;
}
