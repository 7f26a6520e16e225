-- Operators that are moved into the room in front of others.
use Rattle.std.proofs.Common.{◌≡◌, List, ◌++◌, length}
use Rattle.walrus_bodies.specs.Listed.{HasRoom, KeepsRest, operators_of}
use Rattle.walrus_code.specs.declared.operator.Operator.{Operator}
use Rattle.walrus_bodies.specs.declared.listed.Listed.{Listed}

-- these are left to be moved
pub record Fills (front : List Operator) (old : Listed) (left : List Operator) (now : Listed) : Type 0 where
  pub whole : left ++ operators_of now ≡ front ++ operators_of old
  pub room : HasRoom now (length left)
  pub rest : KeepsRest old now
