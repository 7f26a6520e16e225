use Rattle.std.proofs.Common.{replicate}
use Rattle.walrus_base.specs.Locals.{locals}
use Rattle.walrus_bodies.proofs.AddedLemmas.{AddsTypes}
use Rattle.walrus_bodies.proofs.added.add_times.Given as goal

-- those so far are added
abbrev pub invariant-turns : goal.invariant-turns
invariant-turns l = AddsTypes (locals l.initial.module_locals) (locals l.module_locals) (replicate l._turn l.ty)
