use Rattle.walrus_base.specs.Arena.{item_at}
use Rattle.walrus_base.specs.Id.{place}
use Rattle.walrus_base.specs.Composite.{function_type}
use Rattle.walrus_base.specs.ModuleTypes.{type_slots}
use Rattle.walrus_base.specs.TypeDef.{type_def, type_place}
use Rattle.walrus_base.proofs.Indexed.{alone_same, alone_here}
use Rattle.walrus_base.proofs.module_types.ModuleTypes.is_alone_as.Goals as goal

pub returns-in-Some : goal.returns-in-Some
returns-in-Some c =
    alone_same (item_at (type_slots c.args.self.now) (place c.args.id)) (type_def c.get.result.now) (type_place c.get.result.now) (place c.args.id) c.in-Some.found.now c.args.function.now c.eq.result
    c.get.ensures.value c.get.ensures.own c.in-Some.ensures c.eq.ensures

pub returns-in-None : goal.returns-in-None
returns-in-None c = (
  λ t. absurd cc,
  λ h. absurd (c.in-None.ensures (function_type c.args.function.now)
      (alone_here (item_at (type_slots c.args.self.now) (place c.args.id)) (type_def c.get.result.now) (type_place c.get.result.now) (place c.args.id) (function_type c.args.function.now) c.get.ensures.value c.get.ensures.own h)),
)
