use Rattle.std.proofs.Common.{◌≡◌}
use Rattle.walrus_base.specs.ModuleTypes.{type_slots, type_names}
use Rattle.walrus_base.proofs.module_types.ModuleTypes.note_all.Given as goal

abbrev pub invariant-loop-place : goal.invariant-loop-place
invariant-loop-place l = (type_slots l.self ≡ type_slots l.initial.self) × (type_names l.self ≡ type_names l.initial.self)
