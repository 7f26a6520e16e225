use Rattle.std.proofs.Common.{◌≡◌, map, drop}
use Rattle.walrus_base.specs.Value.{val_type}
use Rattle.walrus_code.specs.Indices.{ids_at}
use Rattle.walrus_bodies.specs.Body.{declared_types}
use Rattle.walrus_bodies.specs.Declarations.{declarations_of}
use Rattle.walrus_bodies.proofs.DeclarationLemmas.{types_behind}
use Rattle.walrus_bodies.proofs.declarations.name_types.Given as goal

-- the types so far and those that are left are the types of them all
abbrev pub invariant-loop-declaration : goal.invariant-loop-declaration
invariant-loop-declaration l = types_behind (map val_type l.types.items) (declared_types (ids_at l.indices) (declarations_of (drop l.declaration-index l.declarations))) ≡ declared_types (ids_at l.indices) (declarations_of l.declarations)
