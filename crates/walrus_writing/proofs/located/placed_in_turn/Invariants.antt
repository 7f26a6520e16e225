use Rattle.std.proofs.Common.{◌≡◌, ◌++◌, ℕ, drop, flat_map, map}
use Rattle.std.specs.declared.ops.Range.{Range}
use Rattle.walrus_base.specs.declared.id.Id.{Id}
use Rattle.walrus_base.specs.declared.keys.FunctionKey.{FunctionKey}
use Rattle.walrus_items.specs.Transform.{location_of}
use Rattle.walrus_writing.specs.Located.{placed_at}
use Rattle.walrus_writing.specs.declared.offsets.LocatedBody.{LocatedBody}
use Rattle.walrus_writing.proofs.located.placed_in_turn.Given as goal

-- the locations so far, and those of the turns that are still to come
abbrev pub invariant-turns : goal.invariant-turns
invariant-turns l =
    l.found.items ++ flat_map (placed_at (map (λ (r : Range ℕ). r.start) l.ranges) (map (λ (b : LocatedBody). map location_of b.places.items) l.bodies)) (map (λ (t : Id FunctionKey × ℕ). t.1) (drop l.turn-index l.turns))
    ≡ flat_map (placed_at (map (λ (r : Range ℕ). r.start) l.ranges) (map (λ (b : LocatedBody). map location_of b.places.items) l.bodies)) (map (λ (t : Id FunctionKey × ℕ). t.1) l.turns)
