use Rattle.std.proofs.Common.{◌≡◌, ◌≤◌, ◌∙◌, arith, length, subst, ℕ}
use Rattle.walrus.specs.Base.Id.{place}
use Rattle.walrus.specs.Items.Functions.{functions}
use Rattle.walrus_examples.proofs.CountTurn.{calls_begin, calls_end, calls_next}
use Rattle.walrus_examples.specs.Count.{PlaceCalls}
use Rattle.walrus_examples.proofs.examples.count_calls.call_all.Goals as goal

pub places-init : goal.places-init
places-init c = (calls_begin (place c.args.called) (functions c.args.all.now), c.index-at-end.ensures ∙ c.next_id.ensures)

pub places-preserved : goal.places-preserved
places-preserved c =
    let one = subst (λ (k : ℕ). PlaceCalls (place c.args.called) k (functions c.places.all) (functions c.call_at.new.all)) c.at.ensures c.in_ok-call_at.ensures in
    (calls_next (place c.args.called) c.places.at (functions c.args.all.now) (functions c.places.all) (functions c.call_at.new.all) c.places.invariant.0 one, c.places.invariant.1)

pub returns : goal.returns
returns c =
    let last : c.places.at ≡ c.index-at-end.result = omega (arith, c.places-test.false, c.places.auto.at-end) in
    let end : length (functions c.args.all.now) ≤ c.places.at = omega (arith, last, c.places.invariant.1) in
    calls_end (place c.args.called) c.places.at (functions c.args.all.now) _ c.places.invariant.0 end
