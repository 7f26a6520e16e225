use Rattle.std.proofs.Common.{drop}
use Rattle.walrus_base.specs.Locals.{locals}
use Rattle.walrus_code.specs.Indices.{ids_at}
use Rattle.walrus_bodies.specs.Declarations.{declarations_of}
use Rattle.walrus_bodies.proofs.AddedLemmas.{DeclaredSoFar}
use Rattle.walrus_bodies.proofs.added.add_declared.Given as goal

abbrev pub invariant-declarations : goal.invariant-declarations
invariant-declarations l = DeclaredSoFar (ids_at l.indices) (declarations_of (drop l.declaration-index l.declarations)) (declarations_of l.declarations) (locals l.initial.module_locals) (locals l.module_locals)
