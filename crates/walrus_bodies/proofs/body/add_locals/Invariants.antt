use Rattle.std.proofs.Common.{take}
use Rattle.walrus_base.specs.Locals.{locals}
use Rattle.walrus_bodies.specs.BodyRead.{AddsLocals}
use Rattle.walrus_bodies.proofs.body.add_locals.Given as goal

-- those so far are added
abbrev pub invariant-loop-ty : goal.invariant-loop-ty
invariant-loop-ty l = AddsLocals (locals l.initial.module_locals) (locals l.module_locals) l.ids.items (take l.ty-index l.types)
