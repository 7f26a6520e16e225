use Rattle.std.proofs.Common.{◌≡◌, ◌≤◌, ◌∙◌, arith, length, subst, ℕ}
use Rattle.walrus.specs.Base.Marks.{is_marked}
use Rattle.walrus.specs.Items.Functions.{functions}
use Rattle.walrus_tools.proofs.TrapTurn.{traps_begin, traps_end, traps_next}
use Rattle.walrus_tools.specs.TrapEdit.{PlaceTraps}
use Rattle.walrus_tools.proofs.trap_bodies.trap_marked.Goals as goal

pub places-init : goal.places-init
places-init c = (traps_begin (is_marked c.args.marks.now) (functions c.args.all.now), c.index-at-end.ensures ∙ c.next_id.ensures)

pub places-preserved : goal.places-preserved
places-preserved c =
    let hits = is_marked c.args.marks.now in
    let one = subst (λ (k : ℕ). PlaceTraps (hits k) k (functions c.places.all) (functions c.trap_at.new.all)) c.at.ensures c.in_ok-trap_at.ensures in
    (traps_next hits c.places.at (functions c.args.all.now) (functions c.places.all) (functions c.trap_at.new.all) c.places.invariant.0 one, c.places.invariant.1)

pub returns : goal.returns
returns c =
    let last : c.places.at ≡ c.index-at-end.result = omega (arith, c.places-test.false, c.places.auto.at-end) in
    let end : length (functions c.args.all.now) ≤ c.places.at = omega (arith, last, c.places.invariant.1) in
    traps_end (is_marked c.args.marks.now) c.places.at (functions c.args.all.now) _ c.places.invariant.0 end
