use Rattle.std.proofs.Common.{◌≡◌, ◌++◌, ◌+◌, ◌-◌, ◌≤◌, true, map, length}
use Rattle.walrus_code.specs.Code.{ops_of}
use Rattle.walrus_bodies.specs.Results.{locations}
use Rattle.walrus_bodies.specs.Placed.{placed_ops}
use Rattle.walrus_bodies.specs.Text.{at_place}
use Rattle.walrus_bodies.specs.Texts.{are_operators, texts_at, places_at}
use Rattle.walrus_bodies.proofs.operators.list_operators.Given as goal

-- what was read and what is left to read are the whole, and so are the places
abbrev pub invariant-operators : goal.invariant-operators
invariant-operators l =
    let left = l.count - l._turn in
    let end = l.start + length l.bytes in
    record {
      whole : are_operators left l.rest ≡ true;
      body : ops_of l.list.items ++ placed_ops l.first_local (texts_at left l.rest) ≡ placed_ops l.first_local (texts_at l.count l.bytes);
      located : locations l.list.items ++ map at_place (places_at end left l.rest) ≡ map at_place (places_at end l.count l.bytes);
      within : length l.rest ≤ length l.bytes;
    }
