use Rattle.std.proofs.Common.{◌≡◌, ◌≢◌, ℕ, ◌<◌, Some, slice_get}
use Rattle.walrus_base.specs.Arena.{item_at}
use Rattle.walrus_base.specs.Id.{place}
use Rattle.walrus_base.specs.declared.id.Id.{Id}
use Rattle.walrus_base.specs.declared.keys.TypeKey.{TypeKey}
use Rattle.walrus_base.specs.Alone.{alone}
use Rattle.walrus_base.specs.Composite.{function_type}
use Rattle.walrus_base.specs.ModuleTypes.{type_slots}
use Rattle.walrus_base.proofs.module_types.ModuleTypes.find_noted.Given as goal

abbrev pub invariant-loop-id : goal.invariant-loop-id
invariant-loop-id l = (k : ℕ) (id : Id TypeKey) → k < l.id-index → slice_get l.id-items k ≡ Some id → item_at (type_slots l.self) (place id) ≢ Some (alone (place id) (function_type l.function))
