use Rattle.std.proofs.Common.{◌≡◌, ◌≤◌, ◌∙◌, length, arith}
use Rattle.std.proofs.lemmas.Result.{err_from_is_err_and}
use Rattle.walrus.specs.Items.Imports.{imports}
use Rattle.walrus_tools.specs.Stub.{comes_from}
use Rattle.walrus_tools.proofs.Places.{comes_past}
use Rattle.walrus_tools.proofs.StubCall.{begins, ends}
use Rattle.walrus_examples.proofs.examples.stub_module.trap_all.Goals as goal

pub places-init : goal.places-init
places-init g c = ((λ config whole. begins config (comes_from c.args.from.now (imports c.args.module.now.imports)) _ whole), c.index-at-end.ensures ∙ c.next_id.ensures)

pub returns-in_err-trap_at : goal.returns-in_err-trap_at
returns-in_err-trap_at g c =
    let p = err_from_is_err_and c.from_residual.result c.from_residual.ensures.1 in
    rw (p.1, p.2) (λ config whole. c.in_err-trap_at.ensures config _ whole (c.places.invariant.0 config whole))

pub places-preserved : goal.places-preserved
places-preserved g c = ((λ config whole. c.in_ok-trap_at.ensures config _ whole (c.places.invariant.0 config whole)), c.places.invariant.1)

pub returns : goal.returns
returns g c =
    let last : c.places.at ≡ c.index-at-end.result = omega (arith, c.places-test.false, c.places.auto.at-end) in
    let all = imports c.args.module.now.imports in
    let end : length all ≤ c.places.at = omega (arith, last, c.places.invariant.1) in
    λ config whole. ends config (comes_from c.args.from.now all) _ whole c.places.at _ (λ p le. comes_past c.args.from.now all p (omega (arith, end, le))) (c.places.invariant.0 config whole)
