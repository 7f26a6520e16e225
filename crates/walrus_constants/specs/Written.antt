-- What is answered where a constant expression, or a list of them, is written, and why it isn't.
use Rattle.std.specs.Prelude.{◌≡◌, ⊤, ℕ, Bool, List, [], ◌∷◌, ◌++◌, flat_map, Some, None, IsSome, All, Contains, Result, Ok, Err}
use Rattle.std.specs.List.{list_any}
use Rattle.walrus_base.specs.Types.{HeapType, IsNotExact}
use Rattle.walrus_base.specs.Operators.{Item, Op, names_of}
use Rattle.walrus_code.specs.Names.{Lookup}
use Rattle.walrus_code.specs.Results.{args_are_exact}
use Rattle.walrus_code.specs.declared.error.IrError.{IrError}
use Rattle.walrus_code.specs.declared.error.IrError.TheVariants.{Malformed, Memory, NoIndex, NotWritable, TooLarge}
use Rattle.walrus_model.specs.WellMade.{op_heaps}
use Rattle.walrus_groups.specs.Named.{each}
use Rattle.walrus_constants.specs.Named.{named_const}

-- an exact heap type stands in one of them
abbrev pub ops_are_exact : List Op → Bool
ops_are_exact ops = list_any (λ o. args_are_exact o.args) ops

-- an item that the operators name has no index
abbrev pub LacksAnIndex : Lookup → List Op → Type 0
LacksAnIndex names ops = (x : Item) × (Contains (names_of ops) x × (names x.0 x.1 ≡ None))

-- no bytes spell it: there is no operator, or an exact heap type stands in one
pub data IsUnspelled (ops : List Op) : Type 0 where
  NoOperator : ops ≡ [] → IsUnspelled ops
  ExactHeap : (h : HeapType ℕ) → Contains (flat_map op_heaps ops) h → (IsNotExact h → ⊥) → IsUnspelled ops

-- refused only with a cause, and never Ok with one
abbrev pub IndexesConst : {X : Type 0} → (X → List Op) → Lookup → List Op → Result X IrError → Type 0
IndexesConst view names ops (Ok x) = (named_const names ops ≡ Some (view x)) × (IsUnspelled ops → ⊥)
IndexesConst view names ops (Err NoIndex) = LacksAnIndex names ops
IndexesConst view names ops (Err NotWritable) = IsUnspelled ops
IndexesConst view names ops (Err (Memory e)) = ⊤
IndexesConst view names ops (Err Malformed) = ⊥
IndexesConst view names ops (Err TooLarge) = ⊥

-- ---- a list of them

-- bytes spell it
abbrev pub IsSpelled : List Op → Type 0
IsSpelled ops = IsUnspelled ops → ⊥

-- of these expressions the first that isn't written, with the cause; each in front of it has its indices, and bytes spell it
pub record FirstRefused (names : Lookup) (all : List (List Op)) (Cause : List Op → Type 0) : Type 0 where
  pub before : List (List Op)
  pub first : List Op
  pub after : List (List Op)
  pub are : all ≡ before ++ first ∷ after
  pub found : IsSome (each (named_const names) before)
  pub spelled : All IsSpelled before
  pub cause : Cause first

-- refused as the first of them that isn't written, and never Ok where no bytes spell one
abbrev pub IndexesConsts : {X : Type 0} → (X → List (List Op)) → Lookup → List (List Op) → Result X IrError → Type 0
IndexesConsts view names all (Ok xs) = (each (named_const names) all ≡ Some (view xs)) × All IsSpelled all
IndexesConsts view names all (Err NoIndex) = FirstRefused names all (LacksAnIndex names)
IndexesConsts view names all (Err NotWritable) = FirstRefused names all IsUnspelled
IndexesConsts view names all (Err (Memory e)) = ⊤
IndexesConsts view names all (Err Malformed) = ⊥
IndexesConsts view names all (Err TooLarge) = ⊥
