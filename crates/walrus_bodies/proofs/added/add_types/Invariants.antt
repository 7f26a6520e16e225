use Rattle.std.proofs.Common.{take}
use Rattle.walrus_base.specs.Locals.{locals}
use Rattle.walrus_bodies.proofs.AddedLemmas.{AddsTypes}
use Rattle.walrus_bodies.proofs.added.add_types.Given as goal

-- those so far are added
abbrev pub invariant-types : goal.invariant-types
invariant-types l = AddsTypes (locals l.initial.module_locals) (locals l.module_locals) (take l.ty-index l.types)
