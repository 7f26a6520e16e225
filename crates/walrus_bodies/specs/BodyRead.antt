-- What is answered where the body of a function is read.
use Rattle.std.specs.Prelude.{◌≡◌, ℕ, ◌+◌, ◌++◌, List, [], ◌∷◌, length, map, Option, Some, None, slice_get, Result, Ok, Err}
use Rattle.std.specs.List.{range_with_len}
use Rattle.wasm_forms.specs.declared.types.RawVal.{RawVal}
use Rattle.wasm_forms.specs.Grammar.{Is}
use Rattle.walrus_base.specs.Id.{place}
use Rattle.walrus_base.specs.Types.{ValType}
use Rattle.walrus_base.specs.declared.id.Id.{Id}
use Rattle.walrus_base.specs.declared.keys.LocalKey.{LocalKey}
use Rattle.walrus_base.specs.Locals.{new_local}
use Rattle.walrus_base.specs.Operators.{Op}
use Rattle.walrus_base.specs.Value.{val_type}
use Rattle.walrus_base.specs.declared.locals.Local.{Local}
use Rattle.walrus_base.specs.declared.value.ValType.{ValType as DeclaredValType}
use Rattle.walrus_code.specs.Code.{ops_of}
use Rattle.walrus_code.specs.Names.{Lookup}
use Rattle.walrus_code.specs.declared.error.IrError.{IrError}
use Rattle.walrus_code.specs.declared.error.IrError.TheVariants.{Malformed, Memory, NoIndex, NotWritable, TooLarge}
use Rattle.walrus_code.specs.declared.location.InstrLocId.{InstrLocId}
use Rattle.walrus_bodies.specs.declared.body.ReadBody.{ReadBody}
use Rattle.walrus_bodies.specs.Body.{Context, BodyReads, Located, declarations, declared_types}

-- the places of a function's locals by their indices: its parameters, and then so many declared ones from a place on
abbrev pub body_locals : List ℕ → ℕ → ℕ → ℕ → Option ℕ
body_locals args first count index = slice_get (args ++ range_with_len first count) index

-- a local of each type, without a name
abbrev pub new_locals : List (Id LocalKey) → List DeclaredValType → List (Option Local)
new_locals [] types = []
new_locals (id ∷ ids) [] = []
new_locals (id ∷ ids) (ty ∷ types) = Some (new_local id ty) ∷ new_locals ids types

-- locals of these types are added in order, at the next places
pub record AddsLocals (old new : List (Option Local)) (ids : List (Id LocalKey)) (types : List DeclaredValType) : Type 0 where
  pub places : map place ids ≡ range_with_len (length old) (length types)
  pub added : new ≡ old ++ new_locals ids types

-- what was there stays in front
abbrev pub Grows : List (Option Local) → List (Option Local) → Type 0
Grows old new = (more : List (Option Local)) × (new ≡ old ++ more)

-- the bytes are a body with these operators, and its declared locals are added to those of the module
pub record BodyIsRead (c : Context) (args : List ℕ) (old new : List (Option Local)) (bytes : List ℕ) (body : ReadBody) : Type 0 where
  pub types : List DeclaredValType
  pub reads : BodyReads c (body_locals args (length old) (length types)) bytes (map val_type types) (ops_of body.operators.items)
  pub added : AddsLocals old new body.declared.items types

-- read: as above; refused as malformed: the bytes are no body
abbrev pub ReadsBody : Context → List ℕ → List (Option Local) → List (Option Local) → List ℕ → Result ReadBody IrError → Type 0
ReadsBody c args old new bytes (Ok body) = BodyIsRead c args old new bytes body
ReadsBody c args old new bytes (Err Malformed) = (types : List (ValType ℕ)) (ops : List Op) → BodyReads c (body_locals args (length old) (length types)) bytes types ops → ⊥
ReadsBody c args old new bytes (Err (Memory e)) = Unit {0}
ReadsBody c args old new bytes (Err NoIndex) = ⊥
ReadsBody c args old new bytes (Err NotWritable) = ⊥
ReadsBody c args old new bytes (Err TooLarge) = ⊥

-- Behind the declarations each operator has a location that is given to the place of its first byte.
abbrev pub BodyLocated : (ℕ → InstrLocId → Type 0) → ℕ → List ℕ → List InstrLocId → Type 0
BodyLocated IsGiven place bytes locs = (front : List ℕ) × ((back : List ℕ) × ((declared : List (ℕ × RawVal)) × ((bytes ≡ front ++ back) × Is declarations front declared × Located IsGiven (place + length front) back locs)))

-- ---- for the functions inside

-- the locals that are declared so are added
pub record AreDeclared (names : Lookup) (ds : List (ℕ × RawVal)) (old new : List (Option Local)) (ids : List (Id LocalKey)) : Type 0 where
  pub types : List DeclaredValType
  pub typed : declared_types names ds ≡ Some (map val_type types)
  pub added : AddsLocals old new ids types

-- refused as malformed: a type isn't declared
abbrev pub Declares : {X : Type 0} → Lookup → List (ℕ × RawVal) → List (Option Local) → List (Option Local) → (X → List (Id LocalKey)) → Result X IrError → Type 0
Declares names ds old new ids (Ok x) = AreDeclared names ds old new (ids x)
Declares names ds old new ids (Err Malformed) = declared_types names ds ≡ None
Declares names ds old new ids (Err (Memory e)) = Unit {0}
Declares names ds old new ids (Err NoIndex) = ⊥
Declares names ds old new ids (Err NotWritable) = ⊥
Declares names ds old new ids (Err TooLarge) = ⊥
