use Rattle.std.proofs.Common.{length, refl, arith}
use Rattle.walrus_base.specs.Operators.{Types}
use Rattle.walrus_code.specs.Indices.{places_in}
use Rattle.walrus_base.proofs.Ranges.{counted-on, not-in-range}
use Rattle.walrus_groups.proofs.read.give_index.Goals as goal

pub push_type-requires-clause-is_new : goal.push_type-requires-clause-is_new
push_type-requires-clause-is_new c = not-in-range (length (places_in c.args.indices.now Types)) _ _ c.requires.in_place c.requires.behind

pub push_type-requires-clause-room : goal.push_type-requires-clause-room
push_type-requires-clause-room c = omega (arith, c.index.ensures, c.requires.behind, c.if-index.false)

pub returns-clause-in_place : goal.returns-clause-in_place
returns-clause-in_place c = counted-on _ _ _ (length (places_in c.args.indices.now Types)) _ c.in_ok-push_type.ensures.pushed c.requires.in_place c.requires.behind refl

pub returns-then-index-clause-refused : goal.returns-then-index-clause-refused
returns-then-index-clause-refused c = omega (arith, c.index.ensures, c.requires.behind, c.if-index.true)
