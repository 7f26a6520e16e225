use Rattle.std.proofs.Common.{◌≡◌, Some, drop}
use Rattle.walrus_code.specs.Code.{ops_of}
use Rattle.walrus_bodies.specs.Blocks.{nests, are_nested}
use Rattle.walrus_bodies.specs.OpenBlocks.{opened}
use Rattle.walrus_bodies.proofs.emit.are_nested.Given as goal

-- the operators that are left decide, in the blocks that are open
abbrev pub invariant-loop-operator : goal.invariant-loop-operator
invariant-loop-operator l = nests (Some (opened l.blocks)) (ops_of (drop l.operator-index l.operators)) ≡ are_nested (ops_of l.operators)
