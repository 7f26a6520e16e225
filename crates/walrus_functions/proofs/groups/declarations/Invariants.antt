use Rattle.std.proofs.Common.{map, take}
use Rattle.walrus_code.specs.Indices.{index_of}
use Rattle.walrus_bodies.specs.Declarations.{declarations_of}
use Rattle.walrus_functions.specs.Declaring.{group_of, AreDeclarations}
use Rattle.walrus_functions.proofs.groups.declarations.Given as goal

-- the declarations so far
abbrev pub invariant-loop-count : goal.invariant-loop-count
invariant-loop-count l = AreDeclarations (index_of l.indices) (map group_of (take l.count-index l.groups)) (declarations_of l.declarations.items)
