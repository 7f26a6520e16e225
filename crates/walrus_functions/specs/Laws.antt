-- What holds of the bytes of bodies.
use Rattle.std.specs.Prelude.{◌≡◌, ℕ, List, ◌++◌, map, Option, Some, slice_get}
use Rattle.walrus_base.specs.Arena.{item_at}
use Rattle.walrus_base.specs.Types.{ValType}
use Rattle.walrus_base.specs.Operators.{Op}
pub use Rattle.walrus_bodies.specs.Placed.{moved_arg, moved_op}
use Rattle.walrus_code.specs.Names.{Lookup}
use Rattle.walrus_bodies.specs.Body.{Context, context, BodyReads}
use Rattle.walrus_functions.specs.EmittedBody.{Source, FitsType, CantBeWritten}
use Rattle.walrus_functions.specs.ReadFunction.{locals_from}

-- no bytes are two bodies
abbrev pub BodiesReadOnce : Type 0
BodiesReadOnce = (c : Context) (locals : ℕ → Option ℕ) (bytes : List ℕ) (types others : List (ValType ℕ)) (ops found : List Op)
    → BodyReads c locals bytes types ops → BodyReads c locals bytes others found → (others ≡ types) × (found ≡ ops)

-- A body that is well formed: some bytes read as its operators, where indices lead to the items, and to the function's parameters and
-- then some further locals, whose types these bytes declare. The parameters fit the function's type.
pub record SourceIsWellFormed (s : Source) : Type 0 where
  pub fits : FitsType s.def s.slots s.parameters
  pub names : Lookup
  pub further : List ℕ
  pub types : List (ValType ℕ)
  pub typed : map Some types ≡ map (item_at s.slots) further
  pub bytes : List ℕ
  pub reads : BodyReads (context names s.is_function_type s.features) (slice_get (s.parameters ++ further)) bytes types s.ops

-- what emission refuses as not writable isn't well formed
abbrev pub UnwritableIsIllFormed : Type 0
UnwritableIsIllFormed = (s : Source) → CantBeWritten s → SourceIsWellFormed s → ⊥

-- bytes that are a body over locals from one place on are that body, moved, over as many locals from another place on
abbrev pub LocalsMove : Type 0
LocalsMove = (c : Context) (first count : ℕ) (bytes : List ℕ) (types : List (ValType ℕ)) (ops : List Op)
    → BodyReads c (locals_from 0 count) bytes types ops → BodyReads c (locals_from first count) bytes types (map (moved_op first) ops)

abbrev pub LocalsMoveBack : Type 0
LocalsMoveBack = (c : Context) (first count : ℕ) (bytes : List ℕ) (types : List (ValType ℕ)) (ops : List Op)
    → BodyReads c (locals_from first count) bytes types ops
    → (found : List Op) × (BodyReads c (locals_from 0 count) bytes types found × (ops ≡ map (moved_op first) found))
