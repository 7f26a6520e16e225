-- A body as a list of operators.
use Rattle.std.specs.Prelude.{◌≡◌, ℕ, ◌≤◌, List, length, drop}
use Rattle.walrus_code.specs.declared.operator.Operator.{Operator}
use Rattle.walrus_bodies.specs.declared.listed.Listed.{Listed}

-- the operators, which stand behind the room
abbrev pub operators_of : Listed → List Operator
operators_of listed = drop listed.room listed.operators.items

-- there is room for so many
pub record HasRoom (listed : Listed) (count : ℕ) : Type 0 where
  pub enough : count ≤ listed.room
  pub within : listed.room ≤ length listed.operators.items

-- nothing but the operators and the room differs
abbrev pub KeepsRest : (old new : Listed) → Type 0
KeepsRest old new = new ≡ record old { operators = new.operators; room = new.room }
