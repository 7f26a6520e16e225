use Rattle.std.proofs.Common.{◌≡◌, ◌≤◌, ◌∙◌, length, arith}
use Rattle.std.proofs.lemmas.Result.{err_from_is_err_and}
use Rattle.walrus.specs.Base.Marks.{is_marked}
use Rattle.walrus.specs.Items.Imports.{imports}
use Rattle.walrus_tools.proofs.MatchingEnds.{none_past}
use Rattle.walrus_tools.proofs.StubCall.{begins, ends}
use Rattle.walrus_tools.proofs.tool.stub_matching.trap_hits.Goals as goal

pub places-init : goal.places-init
places-init g c = ((λ config whole bring. begins config (is_marked c.args.marks.now) _ whole), c.index-at-end.ensures ∙ c.next_id.ensures)

pub returns-in_err-trap_hit : goal.returns-in_err-trap_hit
returns-in_err-trap_hit g c =
    let p = err_from_is_err_and c.from_residual.result c.from_residual.ensures.1 in
    rw (p.1, p.2) (λ config whole bring. c.in_err-trap_hit.ensures config _ whole bring (c.places.invariant.0 config whole bring))

pub places-preserved : goal.places-preserved
places-preserved g c = ((λ config whole bring. c.in_ok-trap_hit.ensures config _ whole bring (c.places.invariant.0 config whole bring)), c.places.invariant.1)

pub returns : goal.returns
returns g c =
    let last : c.places.at ≡ c.index-at-end.result = omega (arith, c.places-test.false, c.places.auto.at-end) in
    let end : length (imports c.args.module.now.imports) ≤ c.places.at = omega (arith, last, c.places.invariant.1) in
    λ config whole bring. ends config (is_marked c.args.marks.now) _ whole c.places.at _ (none_past (is_marked c.args.marks.now) (imports c.args.module.now.imports) bring c.places.at end) (c.places.invariant.0 config whole bring)
