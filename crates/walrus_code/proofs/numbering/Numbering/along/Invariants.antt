use Rattle.std.proofs.Common.{map, take}
use Rattle.walrus_base.specs.Id.{place}
use Rattle.walrus_code.specs.Indices.{NumbersAlong}
use Rattle.walrus_code.proofs.numbering.Numbering.along.Given as goal

-- the items so far have their indices
abbrev pub invariant-ids : goal.invariant-ids
invariant-ids g l = NumbersAlong l.numbers (map place (take l.id-index l.order))
