use Rattle.std.proofs.Common.{◌≡◌, map, take}
use Rattle.walrus_base.specs.Id.{place}
use Rattle.walrus_reading.proofs.elements.read_functions.Given as goal

-- those so far have the places of their indices
abbrev pub invariant-loop-index : goal.invariant-loop-index
invariant-loop-index l = map place l.ids.items ≡ take l.index-index l.raw
