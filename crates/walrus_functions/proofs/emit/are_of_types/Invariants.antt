use Rattle.std.proofs.Common.{◌≡◌, Some, map, take}
use Rattle.walrus_base.specs.Arena.{item_at}
use Rattle.walrus_base.specs.Id.{place}
use Rattle.walrus_base.specs.Locals.{locals}
use Rattle.walrus_base.specs.Value.{val_type}
use Rattle.walrus_functions.specs.EmittedBody.{types_of}
use Rattle.walrus_functions.proofs.emit.are_of_types.Given as goal

-- those so far hold their types
abbrev pub invariant-ids : goal.invariant-ids
invariant-ids l = map (item_at (types_of (locals l.module_locals))) (map place (take l.index l.ids)) ≡ map Some (map val_type (take l.index l.wanted))
