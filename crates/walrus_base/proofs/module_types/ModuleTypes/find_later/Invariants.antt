use Rattle.walrus_base.specs.Alone.{StandsNowhere}
use Rattle.walrus_base.specs.Composite.{function_type}
use Rattle.walrus_base.specs.ModuleTypes.{type_slots}
use Rattle.walrus_base.proofs.module_types.ModuleTypes.find_later.Given as goal

-- none stands at the places that were looked at
abbrev pub invariant-loop-place : goal.invariant-loop-place
invariant-loop-place l = StandsNowhere (function_type l.function) (type_slots l.self) l.first l.place
