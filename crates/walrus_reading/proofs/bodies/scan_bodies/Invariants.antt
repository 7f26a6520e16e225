use Rattle.walrus_code.specs.Indices.{ids_at}
use Rattle.walrus_functions.specs.PlainCode.{limits_in}
use Rattle.walrus_model.specs.Scanned.{AreInPlace}
use Rattle.walrus_reading.proofs.bodies.scan_bodies.Given as goal

-- what the bodies so far may name is in place
abbrev pub invariant-bodies : goal.invariant-bodies
invariant-bodies l = AreInPlace (limits_in l.code) (ids_at l.indices)
