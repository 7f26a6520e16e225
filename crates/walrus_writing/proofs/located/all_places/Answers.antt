use Rattle.std.proofs.Common.{◌∙◌, ℕ, List, map, sym}
use Rattle.std.specs.declared.ops.Range.{Range}
use Rattle.std.proofs.lemmas.List.{length-map}
use Rattle.walrus_base.specs.declared.id.Id.{Id}
use Rattle.walrus_base.specs.declared.keys.FunctionKey.{FunctionKey}
use Rattle.walrus_items.specs.Transform.{location_of}
use Rattle.walrus_contents.proofs.ExportedRefs.{if_ok}
use Rattle.walrus_writing.specs.declared.offsets.LocatedBody.{LocatedBody}
use Rattle.walrus_writing.proofs.PlacedInTurn.{each_turn, in_turn}
use Rattle.walrus_writing.proofs.located.all_places.Goals as goal

pub placed_in_turn-requires-clause-each : goal.placed_in_turn-requires-clause-each
placed_in_turn-requires-clause-each c = each_turn (λ (t : Id FunctionKey × ℕ). t.1) c.args.order.now c.args.bodies.now c.in_ok-turns.turns.items c.as_slice.result.now c.requires.ordered c.as_slice.ensures.value c.in_ok-turns.ensures.value

pub returns-clause-value : goal.returns-clause-value
returns-clause-value c =
    let number : Id FunctionKey × ℕ → ℕ = λ t. t.1 in
    let begin : Range ℕ → ℕ = λ r. r.start in
    let offsets : LocatedBody → List (ℕ × ℕ) = λ b. map location_of b.places.items in
    let each = each_turn number c.args.order.now c.args.bodies.now c.in_ok-turns.turns.items c.as_slice.result.now c.requires.ordered c.as_slice.ensures.value c.in_ok-turns.ensures.value in
    if_ok _ _ c.placed_in_turn.result
    (λ found is. in_turn c.args.bodies.now (map begin c.args.ranges.now) (map offsets c.args.bodies.now) (map number c.as_slice.result.now) found.items
    (c.requires.as_many ∙ sym (length-map c.args.ranges.now begin)) (length-map c.args.ranges.now begin ∙ sym c.requires.as_many ∙ sym (length-map c.args.bodies.now offsets)) each is)
    c.placed_in_turn.ensures.value
