-- What the steps answer by which the body of a function is written. Public clauses speak of `BodyWritten` alone.
use Rattle.std.specs.Prelude.{◌≡◌, ℕ, true, List, map, Option, Some, None, Contains, Result, Ok, Err, nat_eq}
use Rattle.std.specs.List.{IsDistinct}
use Rattle.wasm_forms.specs.declared.types.RawVal.{RawVal}
use Rattle.walrus_base.specs.Arena.{item_at}
use Rattle.walrus_base.specs.Types.{ValType}
use Rattle.walrus_base.specs.Operators.{Op}
use Rattle.walrus_base.specs.TypeDef.{TypeDef}
use Rattle.walrus_code.specs.Names.{Lookup, named_val, named_ops}
use Rattle.walrus_code.specs.Results.{val_is_exact}
use Rattle.walrus_code.specs.declared.error.IrError.{IrError}
use Rattle.walrus_code.specs.declared.error.IrError.TheVariants.{Malformed, Memory, NoIndex, NotWritable, TooLarge}
use Rattle.walrus_bodies.specs.declared.features.Features.{Features}
use Rattle.walrus_bodies.specs.Emitting.{OperatorsWritten, IsNotWritable}
use Rattle.walrus_functions.specs.DeclaredLocals.{AreDeclared}
use Rattle.walrus_functions.specs.Declaring.{AreRuns, AreDeclarations}
use Rattle.walrus_functions.specs.EmittedBody.{takes, declarations_bytes}

-- the function's type takes what these locals hold
abbrev pub HasSignature : Option TypeDef → List (Option (ValType ℕ)) → List ℕ → Type 0
HasSignature def slots parameters = (types : List (ValType ℕ)) × ((takes def ≡ Some types) × (map (item_at slots) parameters ≡ map Some types))

-- the parameters differ, and these are the locals that are declared beside them; not writable: a parameter stands there twice
abbrev pub FindsDeclared : {X : Type 0} → List (Option (ValType ℕ)) → List ℕ → List ℕ → (X → List ℕ) → Result X IrError → Type 0
FindsDeclared slots used parameters view (Ok x) = IsDistinct nat_eq parameters × AreDeclared slots used parameters (view x)
FindsDeclared slots used parameters view (Err NotWritable) = IsDistinct nat_eq parameters → ⊥
FindsDeclared slots used parameters view (Err (Memory e)) = Unit {0}
FindsDeclared slots used parameters view (Err NoIndex) = ⊥
FindsDeclared slots used parameters view (Err Malformed) = ⊥
FindsDeclared slots used parameters view (Err TooLarge) = ⊥

-- the declarations of these locals
pub record LocalsDeclared (names : Lookup) (slots : List (Option (ValType ℕ))) (order : List ℕ) (declarations : List (ℕ × RawVal)) : Type 0 where
  pub types : List (ValType ℕ)
  pub typed : map (item_at slots) order ≡ map Some types
  pub groups : List (ℕ × ValType ℕ)
  pub runs : AreRuns types groups
  pub indexed : AreDeclarations names groups declarations

-- one of these locals is of such a type
abbrev pub HasOneOf : List (Option (ValType ℕ)) → List ℕ → (ValType ℕ → Type 0) → Type 0
HasOneOf slots order P = (x : ℕ) × ((v : ValType ℕ) × (Contains order x × (item_at slots x ≡ Some v) × P v))

-- no index: an item in one's type has none; not writable: one's type is exact
abbrev pub DeclaresLocals : {X : Type 0} → Lookup → List (Option (ValType ℕ)) → List ℕ → (X → List (ℕ × RawVal)) → Result X IrError → Type 0
DeclaresLocals names slots order view (Ok x) = LocalsDeclared names slots order (view x)
DeclaresLocals names slots order view (Err NoIndex) = HasOneOf slots order (λ v. named_val names v ≡ None)
DeclaresLocals names slots order view (Err NotWritable) = HasOneOf slots order (λ v. val_is_exact v ≡ true)
DeclaresLocals names slots order view (Err (Memory e)) = Unit {0}
DeclaresLocals names slots order view (Err Malformed) = ⊥
DeclaresLocals names slots order view (Err TooLarge) = ⊥

-- the operators are written behind the declarations
abbrev pub WritesBehind : {X : Type 0} → Lookup → (ℕ → Option ℕ) → Features → List Op → List (ℕ × RawVal) → (X → List ℕ) → (X → List ℕ) → Result X IrError → Type 0
WritesBehind names locals features ops declarations bytes places (Ok x) = OperatorsWritten names locals features ops (declarations_bytes declarations) (bytes x) (places x)
WritesBehind names locals features ops declarations bytes places (Err NoIndex) = named_ops names locals ops ≡ None
WritesBehind names locals features ops declarations bytes places (Err NotWritable) = IsNotWritable names locals features ops
WritesBehind names locals features ops declarations bytes places (Err (Memory e)) = Unit {0}
WritesBehind names locals features ops declarations bytes places (Err Malformed) = ⊥
WritesBehind names locals features ops declarations bytes places (Err TooLarge) = ⊥
