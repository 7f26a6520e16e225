use Rattle.std.specs.Prelude.{◌≡◌, drop, map}
use Rattle.std.specs.List.{list_all}
use Rattle.walrus_module.specs.Tested.{val_is_spelled}
use Rattle.walrus_base.specs.Value.{val_type}
use Rattle.walrus_module.proofs.spelled.are_vals_spelled.Given as goal

-- bytes spell each so far: whether they spell all shows in those that are still to come
abbrev pub invariant-loop-ty : goal.invariant-loop-ty
invariant-loop-ty l = list_all val_is_spelled (map val_type l.types) ≡ list_all val_is_spelled (map val_type (drop l.ty-index l.types))
