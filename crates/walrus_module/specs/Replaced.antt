-- What replacing a function leaves ("Structure > Modules > Functions").
use Rattle.std.specs.Prelude.{ℕ, List, [], ◌∷◌, ◌++◌, length, map, Option, Some, None, Result, Ok, Err, MatchResult, IsErrOf, slice_set, ◌≡◌, ◌⊎◌}
use Rattle.std.specs.Global.{Vec}
use Rattle.std.specs.Borrow.{MutBor, Bor}
use Rattle.walrus_base.specs.Arena.{item_at}
use Rattle.walrus_base.specs.Id.{place}
use Rattle.walrus_base.specs.declared.id.Id.{Id}
use Rattle.walrus_base.specs.declared.keys.FunctionKey.{FunctionKey}
use Rattle.walrus_base.specs.declared.keys.ImportKey.{ImportKey}
use Rattle.walrus_base.specs.declared.keys.LocalKey.{LocalKey}
use Rattle.walrus_base.specs.declared.keys.TypeKey.{TypeKey}
use Rattle.walrus_base.specs.Locals.{locals}
use Rattle.walrus_base.specs.ModuleTypes.{type_slots}
use Rattle.walrus_base.specs.Operators.{function_item}
use Rattle.walrus_base.specs.TypeDef.{TypeDef}
use Rattle.walrus_base.specs.Value.{val_type}
use Rattle.walrus_base.specs.declared.value.ValType.{ValType}
use Rattle.walrus_code.specs.Location.{location}
use Rattle.walrus_items.specs.Function.{function_type, name_of, body_of, locations_of, args_of, handlers_in}
use Rattle.walrus_items.specs.LocalFunction.{LocalFunction}
use Rattle.walrus_ir.specs.Instructions.{end_op, nowhere}
use Rattle.walrus_ir.specs.Sequence.{built, located}
use Rattle.walrus_ir.specs.declared.sequence.InstrSeqBuilder.{InstrSeqBuilder}
use Rattle.walrus_model.specs.BodyRead.{AddsLocals}
use Rattle.walrus_model.specs.BlockHandlers.{params_of}
use Rattle.walrus_model.specs.ReadFunction.{StaysInFront}
use Rattle.walrus_items.specs.Errors.{out_of_memory}
use Rattle.walrus_items.specs.declared.error.Error.{Error}
use Rattle.walrus_items.specs.declared.error.Error.TheVariants.{DeadItem, NotExported, NotImported, NotReplaceable}
use Rattle.walrus_items.specs.declared.function_kind.FunctionKind.{FunctionKind}
use Rattle.walrus_items.specs.declared.function_kind.FunctionKind.TheVariants.{Import, Local, Uninitialized}
use Rattle.walrus_items.specs.declared.kinds.ExportItem.TheVariants.{Function}
use Rattle.walrus_items.specs.Exports.{ExportValue, exports, exports_item}
use Rattle.walrus_items.specs.Functions.{FunctionValue, functions}
use Rattle.walrus_items.specs.Imports.{ImportValue, imported_function, imports, imports_item}
use Rattle.walrus_items.specs.Searches.{first}
use Rattle.walrus_module.specs.declared.module.Module.{Module}

-- the export names this function
abbrev pub naming : Id FunctionKey → ExportValue → ExportValue
naming id e = record e { item = Function id }

-- the function has this body
abbrev pub with_body : LocalFunction → FunctionValue → FunctionValue
with_body local f = record f { kind = Local local }

-- ---- what is built

-- these are the function's parameters
abbrev pub AreParameters : List (Id LocalKey) → LocalFunction → Type 0
AreParameters args function = map place args ≡ args_of function

-- what a closure does that builds a body: its builder, its arguments, its answer, and what it leaves of the builder
abbrev pub Builds : Type 1
Builds = MutBor InstrSeqBuilder → Bor (Vec (Id LocalKey)) → Result (Unit {0}) Error → MutBor InstrSeqBuilder → Type 0

-- the closure was handed an empty builder and these locals, answered so, and left this builder
pub record IsBuilt (post : Builds) (args : List (Id LocalKey)) (answer : Result (Unit {0}) Error) (builder : InstrSeqBuilder) : Type 0 where
  pub shown : MutBor InstrSeqBuilder
  pub given : Bor (Vec (Id LocalKey))
  pub left : MutBor InstrSeqBuilder
  pub empty : built shown.now ≡ []
  pub arguments : given.now.items ≡ args
  pub called : post shown given answer left
  pub leaves : left.now ≡ builder

-- a function of this type with these parameters, whose body the closure left, closed by the last `0B`, which came from nowhere
pub record IsNew (post : Builds) (ty : Id TypeKey) (args : List (Id LocalKey)) (function : LocalFunction) : Type 0 where
  pub builder : InstrSeqBuilder
  pub called : IsBuilt post args (Ok tt) builder
  pub typed : function_type function ≡ ty
  pub takes : AreParameters args function
  pub body : body_of function ≡ built builder ++ end_op ∷ []
  pub places : map location (locations_of function) ≡ located builder ++ nowhere ∷ []
  pub handlers : handlers_in function ≡ []
  pub unnamed : name_of function ≡ None

-- memory ran out, or the closure answered so
abbrev pub Refuses : Builds → List (Id LocalKey) → Error → Type 0
Refuses post args e = (e ≡ out_of_memory) ⊎ ((builder : InstrSeqBuilder) × IsBuilt post args (Err e) builder)

-- the same, of a closure to which this function's parameters were handed
abbrev pub RefusesBody : Builds → LocalFunction → Error → Type 0
RefusesBody post local e = (e ≡ out_of_memory) ⊎ ((args : List (Id LocalKey)) × AreParameters args local × ((builder : InstrSeqBuilder) × IsBuilt post args (Err e) builder))

abbrev pub Rebuilds : Builds → Id TypeKey → List (Id LocalKey) → Result LocalFunction Error → Type 0
Rebuilds post ty args result = MatchResult result (IsNew post ty args) (Refuses post args)

-- ---- what stands at a place

-- the body of a function of this kind, or that it has none
abbrev pub LendsKind : FunctionKind → Result (Bor LocalFunction) Error → Type 0
LendsKind (Local l) result = MatchResult result (λ b. b.now ≡ l) (λ e. ⊥)
LendsKind (Import i) result = IsErrOf result NotReplaceable
LendsKind (Uninitialized ty) result = IsErrOf result NotReplaceable

-- the body of what stands at a function's place, or why there is none
abbrev pub LendsBody : Option FunctionValue → Result (Bor LocalFunction) Error → Type 0
LendsBody None result = IsErrOf result DeadItem
LendsBody (Some f) result = LendsKind f.kind result

-- the function that an import brings, or that it brings none
abbrev pub TellsFunction : Option (Id FunctionKey) → Result (Id FunctionKey) Error → Type 0
TellsFunction None result = IsErrOf result NotImported
TellsFunction (Some fid) result = result ≡ Ok fid

-- the function that what stands at an import's place brings, or why there is none
abbrev pub TellsBrought : Option ImportValue → Result (Id FunctionKey) Error → Type 0
TellsBrought None result = IsErrOf result DeadItem
TellsBrought (Some x) result = TellsFunction (imported_function x.kind) result

-- the type of an imported function, or that it isn't imported
abbrev pub TellsKind : FunctionKind → Result (Id TypeKey) Error → Type 0
TellsKind (Import i) result = result ≡ Ok i.ty
TellsKind (Local l) result = IsErrOf result NotReplaceable
TellsKind (Uninitialized ty) result = IsErrOf result NotReplaceable

-- the type of the imported function that stands there, or why there is none
abbrev pub TellsType : Option FunctionValue → Result (Id TypeKey) Error → Type 0
TellsType None result = IsErrOf result DeadItem
TellsType (Some f) result = TellsKind f.kind result

module _ {S : Type 0} where
  -- ---- an exported function

  -- the new function stands behind the others, without a name, and this export names it
  pub record IsReplaced (post : Builds) (e : ℕ × ExportValue) (local : LocalFunction) (old new : Module S) (id : Id FunctionKey) : Type 0 where
    pub is_next : place id ≡ length (functions old.funcs)
    pub args : List (Id LocalKey)
    pub parameters : AreParameters args local
    pub function : LocalFunction
    pub is_new : IsNew post (function_type local) args function
    pub funcs : functions new.funcs ≡ functions old.funcs ++ Some (record { id = place id; kind = Local function; name = None }) ∷ []
    pub exported : exports new.exports ≡ slice_set (exports old.exports) e.0 (Some (naming id e.1))
    pub others : new ≡ record old { funcs = new.funcs; exports = new.exports }

  -- no function came
  abbrev pub SameFunctions : (old new : Module S) → Type 0
  SameFunctions old new = (functions new.funcs ≡ functions old.funcs) × (new ≡ record old { funcs = new.funcs })

  abbrev pub ReplacesKind : Builds → ℕ × ExportValue → FunctionKind → (old new : Module S) → Result (Id FunctionKey) Error → Type 0
  ReplacesKind post e (Local l) old new result = MatchResult result (IsReplaced post e l old new) (λ err. RefusesBody post l err × SameFunctions old new)
  ReplacesKind post e (Import i) old new result = IsErrOf result NotReplaceable × (new ≡ old)
  ReplacesKind post e (Uninitialized ty) old new result = IsErrOf result NotReplaceable × (new ≡ old)

  -- by the first export of the function, and what stands at its place
  abbrev pub ReplacesFound : Builds → Option (ℕ × ExportValue) → Option FunctionValue → (old new : Module S) → Result (Id FunctionKey) Error → Type 0
  ReplacesFound post None slot old new result = IsErrOf result NotExported × (new ≡ old)
  ReplacesFound post (Some e) None old new result = IsErrOf result DeadItem × (new ≡ old)
  ReplacesFound post (Some e) (Some f) old new result = ReplacesKind post e f.kind old new result

  abbrev pub ReplacesExported : Builds → Id FunctionKey → (old new : Module S) → Result (Id FunctionKey) Error → Type 0
  ReplacesExported post fid old new result = ReplacesFound post (first (exports_item (function_item (place fid))) (exports old.exports)) (item_at (functions old.funcs) (place fid)) old new result

  -- ---- an imported function

  -- locals of these types were added, which the type takes; of no function type there are none
  pub record AddsParameters (def : TypeDef) (old new : Module S) (args : List (Id LocalKey)) : Type 0 where
    pub types : List ValType
    pub taken : map val_type types ≡ params_of (Some def)
    pub added : AddsLocals (locals old.locals) (locals new.locals) args types

  -- the function is local under its id and its name, with fresh locals as its parameters, and this import is gone
  pub record IsMadeLocal (post : Builds) (fid : Id FunctionKey) (i : ℕ) (f : FunctionValue) (ty : Id TypeKey) (def : TypeDef) (old new : Module S) (id : Id FunctionKey) : Type 0 where
    pub same : id ≡ fid
    pub args : List (Id LocalKey)
    pub parameters : AddsParameters def old new args
    pub function : LocalFunction
    pub is_new : IsNew post ty args function
    pub funcs : functions new.funcs ≡ slice_set (functions old.funcs) (place fid) (Some (with_body function f))
    pub gone : imports new.imports ≡ slice_set (imports old.imports) i None
    pub others : new ≡ record old { funcs = new.funcs; imports = new.imports; locals = new.locals }

  -- memory ran out, or the closure answered so, to which locals were added for its arguments
  abbrev pub RefusesLocal : Builds → TypeDef → (old new : Module S) → Error → Type 0
  RefusesLocal post def old new e = (e ≡ out_of_memory) ⊎ ((args : List (Id LocalKey)) × AddsParameters def old new args × ((builder : InstrSeqBuilder) × IsBuilt post args (Err e) builder))

  -- no more than locals came
  abbrev pub OnlyLocals : (old new : Module S) → Type 0
  OnlyLocals old new = StaysInFront (locals old.locals) (locals new.locals) × (new ≡ record old { locals = new.locals })

  abbrev pub MakesLocal : Builds → Id FunctionKey → ℕ → FunctionValue → Id TypeKey → Option TypeDef → (old new : Module S) → Result (Id FunctionKey) Error → Type 0
  MakesLocal post fid i f ty None old new result = IsErrOf result DeadItem × (new ≡ old)
  MakesLocal post fid i f ty (Some def) old new result = MatchResult result (IsMadeLocal post fid i f ty def old new) (λ e. RefusesLocal post def old new e × OnlyLocals old new)

  abbrev pub MakesKindLocal : Builds → Id FunctionKey → ℕ → FunctionValue → FunctionKind → (old new : Module S) → Result (Id FunctionKey) Error → Type 0
  MakesKindLocal post fid i f (Import imported) old new result = MakesLocal post fid i f imported.ty (item_at (type_slots old.types) (place imported.ty)) old new result
  MakesKindLocal post fid i f (Local l) old new result = IsErrOf result NotReplaceable × (new ≡ old)
  MakesKindLocal post fid i f (Uninitialized ty) old new result = IsErrOf result NotReplaceable × (new ≡ old)

  -- by what stands at the function's place
  abbrev pub MakesSlotLocal : Builds → Id FunctionKey → ℕ → Option FunctionValue → (old new : Module S) → Result (Id FunctionKey) Error → Type 0
  MakesSlotLocal post fid i None old new result = IsErrOf result DeadItem × (new ≡ old)
  MakesSlotLocal post fid i (Some f) old new result = MakesKindLocal post fid i f f.kind old new result

  -- by the first import of the function, and what stands at its place
  abbrev pub MakesFoundLocal : Builds → Id FunctionKey → Option (ℕ × ImportValue) → Option FunctionValue → (old new : Module S) → Result (Id FunctionKey) Error → Type 0
  MakesFoundLocal post fid None slot old new result = IsErrOf result NotImported × (new ≡ old)
  MakesFoundLocal post fid (Some i) slot old new result = MakesSlotLocal post fid i.0 slot old new result

  abbrev pub ReplacesImported : Builds → Id FunctionKey → (old new : Module S) → Result (Id FunctionKey) Error → Type 0
  ReplacesImported post fid old new result = MakesFoundLocal post fid (first (imports_item (function_item (place fid))) (imports old.imports)) (item_at (functions old.funcs) (place fid)) old new result

  -- ---- the function that an import brings

  -- by the function that the import at this place brings, if it brings one
  abbrev pub MakesBroughtLocal : Builds → ℕ → Option (Id FunctionKey) → (old new : Module S) → Result (Id FunctionKey) Error → Type 0
  MakesBroughtLocal post i None old new result = IsErrOf result NotImported × (new ≡ old)
  MakesBroughtLocal post i (Some fid) old new result = MakesSlotLocal post fid i (item_at (functions old.funcs) (place fid)) old new result

  -- by what stands at the import's place
  abbrev pub MakesImportedLocal : Builds → ℕ → Option ImportValue → (old new : Module S) → Result (Id FunctionKey) Error → Type 0
  MakesImportedLocal post i None old new result = IsErrOf result DeadItem × (new ≡ old)
  MakesImportedLocal post i (Some x) old new result = MakesBroughtLocal post i (imported_function x.kind) old new result

  abbrev pub ReplacesImport : Builds → Id ImportKey → (old new : Module S) → Result (Id FunctionKey) Error → Type 0
  ReplacesImport post at old new result = MakesImportedLocal post (place at) (item_at (imports old.imports) (place at)) old new result
