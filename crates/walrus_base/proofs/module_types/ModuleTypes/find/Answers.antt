use Rattle.walrus_base.specs.Composite.{function_type}
use Rattle.walrus_base.specs.ModuleTypes.{type_slots}
use Rattle.walrus_base.proofs.Indexed.{nowhere_or_behind}
use Rattle.walrus_base.proofs.module_types.ModuleTypes.find.Goals as goal

pub returns-in-None : goal.returns-in-None
returns-in-None c = nowhere_or_behind (function_type c.args.function.now) (type_slots c.args.self.now) c.args.self.now.noted c.find_later.result c.in-None.ensures c.find_later.ensures
