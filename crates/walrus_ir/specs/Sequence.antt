-- What a contract sees of a sequence of operators that is being built.
use Rattle.std.specs.Prelude.{◌≡◌, ℕ, List, map}
use Rattle.walrus_base.specs.Operators.{Op}
use Rattle.walrus_bodies.specs.Code.{ops_of}
use Rattle.walrus_bodies.specs.Location.{location}
use Rattle.walrus_bodies.specs.Operator.{Operator}
use Rattle.walrus_bodies.specs.Results as text
use Rattle.walrus_ir.specs.declared.sequence.InstrSeqBuilder.{InstrSeqBuilder}

-- where each operator came from
abbrev pub locations : List Operator → List ℕ
locations operators = map location (text.locations operators)

-- the operators that were built, in order, over the places of the items that they name
abbrev pub built : InstrSeqBuilder → List Op
built b = ops_of b.operators.items

-- where each of them came from
abbrev pub located : InstrSeqBuilder → List ℕ
located b = locations b.operators.items

-- the same operators from the same locations
abbrev pub Stays : (old new : InstrSeqBuilder) → Type 0
Stays old new = (built new ≡ built old) × (located new ≡ located old)
