use Rattle.std.proofs.Common.{refl}
use Rattle.walrus_code.specs.Indices.{index_of}
use Rattle.walrus_writing.proofs.JoinedBodies.{found, found_within}
use Rattle.walrus_writing.proofs.bodies.written_bodies.Goals as goal

pub invariant_of-bodies : goal.invariant_of-bodies
invariant_of-bodies c = record { within = found_within c.args.under.parts (index_of c.args.under.indices.now) c.args.under.features.now _ _ _ c.args.order.now _ _ _ _ refl c.in_ok-told.ensures.value }

pub returns-clause-value : goal.returns-clause-value
returns-clause-value c = found c.args.under.parts (index_of c.args.under.indices.now) c.args.under.features.now _ _ _ c.args.order.now _ _ _ _ refl c.in_ok-bytes.ensures.items c.in_ok-told.ensures.value
