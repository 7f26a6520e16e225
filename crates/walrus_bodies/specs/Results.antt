-- What is answered where a body is read or written.
use Rattle.std.specs.Prelude.{ℕ, Bool, true, false, List, [], Option, Result, Ok, Err, map}
use Rattle.walrus_base.specs.Operators.{Op}
use Rattle.walrus_code.specs.declared.error.IrError.{IrError}
use Rattle.walrus_code.specs.declared.error.IrError.TheVariants.{Malformed, Memory, NoIndex, NotWritable, TooLarge}
use Rattle.walrus_code.specs.declared.location.InstrLocId.{InstrLocId}
use Rattle.walrus_code.specs.declared.operator.Operator.{Operator}
use Rattle.walrus_bodies.specs.Body.{Context, OperatorsRead}

-- the locations of operators
abbrev pub locations : List Operator → List InstrLocId
locations operators = map (λ o. o.loc) operators

-- these, where they are asked for
abbrev pub kept_if : {X : Type 0} → Bool → List X → List X
kept_if true xs = xs
kept_if false xs = []

-- read: the bytes are these operators; refused as malformed: they are none
abbrev pub ReadsOperators : {X : Type 0} → Context → (ℕ → Option ℕ) → (X → List Op) → List ℕ → Result X IrError → Type 0
ReadsOperators c locals view bytes (Ok x) = OperatorsRead c locals bytes (view x)
ReadsOperators c locals view bytes (Err Malformed) = (ops : List Op) → OperatorsRead c locals bytes ops → ⊥
ReadsOperators c locals view bytes (Err (Memory e)) = Unit {0}
ReadsOperators c locals view bytes (Err NoIndex) = ⊥
ReadsOperators c locals view bytes (Err NotWritable) = ⊥
ReadsOperators c locals view bytes (Err TooLarge) = ⊥
