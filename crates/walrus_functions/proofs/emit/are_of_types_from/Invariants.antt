use Rattle.std.proofs.Common.{◌≡◌, ◌≤◌, Some, length, map, take}
use Rattle.std.specs.List.{range_with_len}
use Rattle.walrus_base.specs.Arena.{item_at}
use Rattle.walrus_base.specs.Locals.{locals}
use Rattle.walrus_base.specs.Value.{val_type}
use Rattle.walrus_functions.specs.EmittedBody.{types_of}
use Rattle.walrus_functions.proofs.emit.are_of_types_from.Given as goal

-- those so far hold their types
abbrev pub invariant-wanted : goal.invariant-wanted
invariant-wanted l = record {
  held : map (item_at (types_of (locals l.module_locals))) (range_with_len l.first l.index) ≡ map Some (map val_type (take l.index l.wanted));
  within : l.index ≤ length l.wanted;
}
