-- What is answered where a whole function is read: its parameters become locals, its body is read, and the types of its legacy exception
-- handlers are found or added.
use Rattle.std.specs.Prelude.{◌≡◌, ◌⊎◌, ℕ, ◌+◌, Bool, true, false, is_some, List, [], ◌∷◌, ◌++◌, length, map, Option, None, slice_get, Result, Ok, Err}
use Rattle.std.specs.List.{range_with_len}
use Rattle.walrus_base.specs.Arena.{item_at}
use Rattle.walrus_base.specs.Id.{place}
use Rattle.walrus_base.specs.Types.{ValType}
use Rattle.walrus_base.specs.declared.id.Id.{Id}
use Rattle.walrus_base.specs.declared.keys.LocalKey.{LocalKey}
use Rattle.walrus_base.specs.Alone.{FoundOrAdded}
use Rattle.walrus_base.specs.Composite.{FunctionType}
use Rattle.walrus_base.specs.Operators.{Op}
use Rattle.walrus_base.specs.TypeDef.{TypeDef}
use Rattle.walrus_base.specs.Value.{val_type}
use Rattle.walrus_base.specs.declared.locals.Local.{Local}
use Rattle.walrus_base.specs.declared.value.ValType.{ValType as DeclaredValType}
use Rattle.walrus_bodies.specs.Function.{function_type, name_of, body_of, args_of, handlers_in}
use Rattle.walrus_code.specs.declared.location.InstrLocId.{InstrLocId}
use Rattle.walrus_bodies.specs.Scanned.{IsPlace}
use Rattle.walrus_code.specs.declared.error.IrError.{IrError}
use Rattle.walrus_code.specs.declared.error.IrError.TheVariants.{Malformed, Memory, NoIndex, NotWritable, TooLarge}
use Rattle.walrus_bodies.specs.declared.function.LocalFunction.{LocalFunction}
use Rattle.walrus_bodies.specs.Body.{Context, BodyReads}
use Rattle.walrus_bodies.specs.BodyRead.{AddsLocals}
use Rattle.walrus_functions.specs.Handlers.{params_of, handlers_of}

-- The slots of types and their names: what a module's types hold.
pub record Slots : Type 0 where
  pub types : List (Option TypeDef)
  pub names : List (Option (Option (List ℕ)))

-- each of these function types in turn is found, or added at the end, and these are their places
pub data AddsTypes : (fs : List FunctionType) (old new : Slots) (places : List ℕ) → Type 0 where
  Nothing : (s : Slots) → AddsTypes [] s s []
  AndOne : (f : FunctionType) (fs : List FunctionType) (old middle new : Slots) (p : ℕ) (ps : List ℕ) → FoundOrAdded f old.types middle.types old.names middle.names p → AddsTypes fs middle new ps → AddsTypes (f ∷ fs) old new (p ∷ ps)

-- so many locals from a place on, by their indices
abbrev pub locals_from : ℕ → ℕ → ℕ → Option ℕ
locals_from first count index = slice_get (range_with_len first count) index

-- The bytes are a body with the function's operators, under its parameters and then its declared locals. These are added to the locals of
-- the module in this order, the function has the first of them as its parameters, and the types of its handlers are found or added.
pub record FunctionIsRead (c : Context) (tags : ℕ → Option ℕ) (ty : ℕ) (old_types new_types : Slots) (old_locals new_locals : List (Option Local)) (bytes : List ℕ) (f : LocalFunction) : Type 0 where
  pub own_type : place (function_type f) ≡ ty
  pub unnamed : name_of f ≡ None
  pub params : List DeclaredValType
  pub declared : List DeclaredValType
  pub takes : map val_type params ≡ params_of (item_at old_types.types ty)
  pub parameters : args_of f ≡ range_with_len (length old_locals) (length params)
  pub ids : List (Id LocalKey)
  pub added : AddsLocals old_locals new_locals ids (params ++ declared)
  pub reads : BodyReads c (locals_from (length old_locals) (length params + length declared)) bytes (map val_type declared) (body_of f)
  pub handlers : AddsTypes (handlers_of (item_at old_types.types) tags (body_of f)) old_types new_types (handlers_in f)

-- read: as above; refused as malformed: the bytes are no body
abbrev pub ReadsFunction : Context → (ℕ → Option ℕ) → ℕ → Slots → Slots → List (Option Local) → List (Option Local) → List ℕ → Result LocalFunction IrError → Type 0
ReadsFunction c tags ty old_types new_types old_locals new_locals bytes (Ok f) = FunctionIsRead c tags ty old_types new_types old_locals new_locals bytes f
ReadsFunction c tags ty old_types new_types old_locals new_locals bytes (Err Malformed) = (types : List (ValType ℕ)) (ops : List Op) → BodyReads c (locals_from (length old_locals) (length (params_of (item_at old_types.types ty)) + length types)) bytes types ops → ⊥
ReadsFunction c tags ty old_types new_types old_locals new_locals bytes (Err (Memory e)) = Unit {0}
ReadsFunction c tags ty old_types new_types old_locals new_locals bytes (Err NoIndex) = ⊥
ReadsFunction c tags ty old_types new_types old_locals new_locals bytes (Err NotWritable) = ⊥
ReadsFunction c tags ty old_types new_types old_locals new_locals bytes (Err TooLarge) = ⊥

-- what was there stays in front
abbrev pub StaysInFront : {T : Type 0} → List T → List T → Type 0
StaysInFront {T} old new = (more : List T) × (new ≡ old ++ more)

-- the location that is given, or, where bodies may be kept as they stand in the input, the place
abbrev pub GivenIf : Bool → (ℕ → InstrLocId → Type 0) → ℕ → InstrLocId → Type 0
GivenIf false IsGiven place loc = IsGiven place loc
GivenIf true IsGiven place loc = IsGiven place loc ⊎ IsPlace place loc

abbrev pub Given : {X : Type 0} → Option X → (ℕ → InstrLocId → Type 0) → ℕ → InstrLocId → Type 0
Given texts IsGiven place loc = GivenIf (is_some texts) IsGiven place loc
