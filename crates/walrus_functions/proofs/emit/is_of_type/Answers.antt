use Rattle.walrus_base.specs.Arena.{item_at}
use Rattle.walrus_base.specs.Id.{place}
use Rattle.walrus_base.specs.Locals.{locals}
use Rattle.walrus_base.specs.Value.{val_type}
use Rattle.walrus_functions.specs.EmittedBody.{types_of}
use Rattle.walrus_functions.proofs.FitLemmas.{held_is, held_none}
use Rattle.walrus_functions.proofs.emit.is_of_type.Goals as goal

pub returns-in_default : goal.returns-in_default
returns-in_default c = held_none (item_at (types_of (locals c.args.module_locals.now)) (place c.args.id)) (val_type c.args.ty) c.in_default.ensures

pub returns : goal.returns
returns c = held_is (item_at (types_of (locals c.args.module_locals.now)) (place c.args.id)) c.in-Some.held c.args.ty c.eq.result c.in-Some.ensures c.eq.ensures
