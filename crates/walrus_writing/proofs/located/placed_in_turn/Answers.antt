use Rattle.std.proofs.Common.{ℕ, List, arith, map}
use Rattle.std.specs.declared.ops.Range.{Range}
use Rattle.walrus_base.specs.declared.id.Id.{Id}
use Rattle.walrus_base.specs.declared.keys.FunctionKey.{FunctionKey}
use Rattle.walrus_items.specs.Transform.{location_of}
use Rattle.walrus_writing.specs.Located.{placed_at}
use Rattle.walrus_writing.specs.declared.offsets.LocatedBody.{LocatedBody}
use Rattle.walrus_writing.proofs.LocatedLoops.{ends, turn}
use Rattle.walrus_writing.proofs.PlacedInTurn.{joined_end, joined_step, turn_below}
use Rattle.walrus_writing.proofs.located.placed_in_turn.Goals as goal

pub push_body-requires-clause-there : goal.push_body-requires-clause-there
push_body-requires-clause-there c = turn_below (λ (t : Id FunctionKey × ℕ). t.1) c.args.bodies.now c.args.turns.now c.requires.each c.turns.turn-index _ c.turns-test.true

pub turns-preserved : goal.turns-preserved
turns-preserved c =
    let placed : ℕ → List (ℕ × ℕ) = placed_at (map (λ (r : Range ℕ). r.start) c.args.ranges.now) (map (λ (b : LocatedBody). map location_of b.places.items) c.args.bodies.now) in
    turn _ _ _ _ _ _ (joined_step placed (λ (t : Id FunctionKey × ℕ). t.1) c.args.turns.now c.turns.turn-index _ c.turns-test.true) c.in_ok-push_body.ensures.value c.turns.invariant

pub returns-clause-value : goal.returns-clause-value
returns-clause-value c =
    let placed : ℕ → List (ℕ × ℕ) = placed_at (map (λ (r : Range ℕ). r.start) c.args.ranges.now) (map (λ (b : LocatedBody). map location_of b.places.items) c.args.bodies.now) in
    ends _ _ _ (joined_end placed (λ (t : Id FunctionKey × ℕ). t.1) c.args.turns.now c.turns.turn-index (omega (arith, c.turns-test.false))) c.turns.invariant
