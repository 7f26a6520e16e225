-- What the fields of a module hold of the sections that were read.
use Rattle.std.specs.Prelude.{ℕ, ◌+◌, ◌<◌, All, List, Vec, replicate, [], ◌∷◌, ◌++◌, map, flat_map, zip, Option, Some, None, length, drop, slice_get, ◌≡◌, Result, Ok, Err, option_map}
use Rattle.std.specs.List.{AllZip, range_with_len}
use Rattle.std.specs.declared.alloc.Global.{Global}
use Rattle.walrus_base.specs.Arena.{item_at}
use Rattle.walrus_base.specs.Id.{place}
use Rattle.walrus_base.specs.Types.{ValType}
use Rattle.walrus_base.specs.Locals.{locals, local_place, local_type}
use Rattle.walrus_base.specs.Composite.{function_comp}
use Rattle.walrus_base.specs.ModuleTypes.{type_names, type_slots}
use Rattle.walrus_base.specs.Operators.{Types}
use Rattle.walrus_base.specs.TypeDef.{TypeDef}
use Rattle.walrus_base.specs.Value.{val_type}
use Rattle.walrus_base.specs.declared.locals.Local.{Local as LocalItem}
use Rattle.walrus_base.specs.declared.locals.ModuleLocals.{ModuleLocals}
use Rattle.walrus_base.specs.declared.module_types.ModuleTypes.{ModuleTypes}
use Rattle.walrus_items.specs.Function.{function_type, name_of, body_of, locations_of, args_of}
use Rattle.walrus_items.specs.LocalFunction.{LocalFunction}
use Rattle.walrus_code.specs.Location.{location, location_at}
use Rattle.walrus_code.specs.declared.location.InstrLocId.{InstrLocId}
use Rattle.walrus_bodies.specs.BodyRead.{BodyLocated}
use Rattle.walrus_functions.specs.Handlers.{handlers_of, params_of}
use Rattle.walrus_functions.specs.Laws.{moved_op}
use Rattle.walrus_functions.specs.ReadFunction.{AddsTypes, Slots, locals_from}
use Rattle.walrus_functions.specs.Signatures.{slots_of, tag_places}
use Rattle.walrus_bodies.specs.Body.{Context, context, BodyReads}
use Rattle.walrus_bodies.specs.FunctionTypes.{is_function_at}
use Rattle.walrus_bodies.specs.declared.features.Features.{Features}
use Rattle.walrus_code.specs.Indices.{ids_at}
use Rattle.walrus_code.specs.Names.{Lookup}
use Rattle.walrus_items.specs.Exports.{ExportValue, exports}
use Rattle.walrus_items.specs.Functions.{FunctionValue, functions}
use Rattle.walrus_items.specs.declared.function_kind.FunctionKind.TheVariants.{Local}
use Rattle.walrus_groups.specs.Groups.{types_from}
use Rattle.walrus_model.specs.Reads.{ReadsBodyWith, context_with}
use Rattle.walrus_items.specs.Imports.{imports}
use Rattle.walrus_items.specs.Data.{data_segments}
use Rattle.walrus_items.specs.Elements.{elements}
use Rattle.walrus_items.specs.Globals.{globals}
use Rattle.walrus_items.specs.Memories.{memories}
use Rattle.walrus_items.specs.Tables.{tables}
use Rattle.walrus_items.specs.Tags.{tags}
use Rattle.walrus_model.specs.Abstract.{Function}
use Rattle.walrus_model.specs.Sections.{Said, imported, imported_function, imports_after, types_of, export_of, tables_of, memories_of, tags_of, globals_of, elements_of, data_segments_of}
use Rattle.walrus_reading.specs.Held.{HoldsData, HoldsElement, HoldsGlobal, HoldsImport, HoldsImportedFunction, HoldsMemory, HoldsTable, HoldsTag, memory_keeps, table_keeps}
use Rattle.walrus_theorem.specs.Chain.{AreFoundOrAdded}
use Rattle.walrus_reading.specs.Imported.{HoldsImported}
use Rattle.walrus_reading.specs.TakenNames.{starts_from}
use Rattle.walrus_contents.specs.View as view
use Rattle.walrus_contents.specs.declared.parts.Contents.{Contents}
use Rattle.walrus_reading.specs.Placed.{AddsPlaced, AllPlaced, InTurn}
use Rattle.walrus_reading.specs.Unread.{IsFirstOf, IsFirstUnread}
use Rattle.walrus_reading.specs.declared.functions.Under.{Under}
use Rattle.walrus_reading.specs.declared.unread.Unread.{Unread}
use Rattle.walrus_reading.specs.declared.unread.Unread.TheVariants.{Body, Fails}
use Rattle.wasm_entries.specs.Record as entries
use Rattle.wasm_frames.specs.Record as wire
use Rattle.walrus_items.specs.declared.error.Error.{Error}
use Rattle.walrus_items.specs.declared.error.Error.TheVariants.{Memory, InvalidWasm}

-- ---- what is held of what was read; nothing is deleted, each item sits at its own id, and nothing of these has a name

-- the types of the locals of a function: its parameters, and then those that its body declares, used or not
abbrev pub locals_said : (types : ℕ → Option TypeDef) → ℕ × Said → List (ValType ℕ)
locals_said types f = params_of (types f.0) ++ f.1.0

-- how many locals each of these functions has
abbrev pub local_counts : (types : ℕ → Option TypeDef) → List (ℕ × Said) → List ℕ
local_counts types said = map (λ p. length (locals_said types p)) said

-- where the locals of each function begin, and behind them the end: so many that imports bring have none, and these stand behind them
abbrev pub starts_of : (types : ℕ → Option TypeDef) → ℕ → List (ℕ × Said) → List ℕ
starts_of types brought said = replicate brought 0 ++ starts_from 0 (local_counts types said)

-- A function of this type holds the body that was read: so many parameters are its locals from the first one on, and its operators name its
-- locals there. It has no name.
pub record HoldsBody (first ty arity : ℕ) (body : Said) (f : LocalFunction) : Type 0 where
  pub typed : place (function_type f) ≡ ty
  pub parameters : args_of f ≡ range_with_len first arity
  pub operators : body_of f ≡ map (moved_op first) body.1
  pub unnamed : name_of f ≡ None

-- a slot holds, with this id, a function of this type with the body that was read
pub record HoldsFunction (types : ℕ → Option TypeDef) (id first : ℕ) (f : ℕ × Said) (slot : Option FunctionValue) : Type 0 where
  pub local : LocalFunction
  pub is : slot ≡ Some (record { id = id; kind = Local local; name = None })
  pub body : HoldsBody first f.0 (length (params_of (types f.0))) f.1 local

-- function by function: the locals of each stand behind those of the functions before it
abbrev pub HoldFunctions : (types : ℕ → Option TypeDef) → (id first : ℕ) → List (ℕ × Said) → List (Option FunctionValue) → Type 0
HoldFunctions types id first [] [] = Unit {0}
HoldFunctions types id first [] (slot ∷ slots) = ⊥
HoldFunctions types id first (f ∷ fs) [] = ⊥
HoldFunctions types id first (f ∷ fs) (slot ∷ slots) = HoldsFunction types id first f slot × HoldFunctions types (id + 1) (first + length (locals_said types f)) fs slots

-- the types of the tags, by their places
abbrev pub tag_types_of : wire.Module → ℕ → Option ℕ
tag_types_of r tag = option_map (λ t. t.ty) (slice_get (tags_of r) tag)

-- each type that the legacy handlers of a body need is found, or added behind the others, and a slot holds a function with the places of these
abbrev pub HoldsHandlers : (types : ℕ → Option TypeDef) (tags : ℕ → Option ℕ) → ℕ × Said → Option FunctionValue → (old new : List TypeDef) → Type 0
HoldsHandlers types tags f slot old new = AreFoundOrAdded (map function_comp (handlers_of types tags f.1.1)) old new (view.handlers_at slot)

-- a slot holds, with this id, a local of this type
pub record HoldsLocal (id : ℕ) (type : ValType ℕ) (slot : Option LocalItem) : Type 0 where
  pub local : LocalItem
  pub is : slot ≡ Some local
  pub own_id : local_place local ≡ id
  pub typed : val_type (local_type local) ≡ type
  pub unnamed : local.name ≡ None

-- a slot holds, with this id, the export that was read
pub record HoldsExport (id : ℕ) (e : entries.Export) (slot : Option ExportValue) : Type 0 where
  pub value : ExportValue
  pub is : slot ≡ Some value
  pub own_id : value.id ≡ id
  pub read : view.export_of value ≡ export_of e

-- an operator's location is the place of its first byte in the input
abbrev pub IsPlace : ℕ → InstrLocId → Type 0
IsPlace place loc = location loc ≡ location_at place

-- `Gives place loc`: an operator whose first byte stands at this place of the input is given this location.
module _ (Gives : ℕ → InstrLocId → Type 0) where
  -- a slot holds a function each operator of which is located as is given for where it stands in this body
  pub record IsLocated (body : wire.Body) (slot : Option FunctionValue) : Type 0 where
    pub value : FunctionValue
    pub is : slot ≡ Some value
    pub local : LocalFunction
    pub kind : value.kind ≡ Local local
    pub places : BodyLocated Gives body.start body.bytes (locations_of local)

  -- the functions with bodies are located in them: they stand behind those that imports bring
  abbrev pub AreLocatedIn : wire.Module → List (Option FunctionValue) → Type 0
  AreLocatedIn r slots = AllZip IsLocated r.bodies (drop (length (imported imported_function 0 r.imports)) slots)

  -- one more slot holds a function that is located in the body
  abbrev pub AddsLocated : wire.Body → (old new : List (Option FunctionValue)) → Type 0
  AddsLocated body old new = (slot : Option FunctionValue) × ((new ≡ old ++ slot ∷ []) × IsLocated body slot)

  -- behind the others, slots hold functions that are located in these bodies
  abbrev pub AddLocated : List wire.Body → (old new : List (Option FunctionValue)) → Type 0
  AddLocated bodies old new = (added : List (Option FunctionValue)) × ((new ≡ old ++ added) × AllZip IsLocated bodies added)

-- functions with bodies stand behind the others
pub record AddsFunctions (types : ℕ → Option TypeDef) (said : List (ℕ × Said)) (old new : List (Option FunctionValue)) : Type 0 where
  pub added : List (Option FunctionValue)
  pub behind : new ≡ old ++ added
  pub held : HoldFunctions types (length old) 0 said added

-- the functions that imports bring, and behind them those with bodies
pub record HoldsFunctions (types : ℕ → Option TypeDef) (brought : List Function) (said : List (ℕ × Said)) (slots : List (Option FunctionValue)) : Type 0 where
  pub front : List (Option FunctionValue)
  pub brings : AllPlaced HoldsImportedFunction 0 brought front
  pub own : AddsFunctions types said front slots

-- The module holds these sections, whose bodies say this: the imports, the items of each index space and the exports in their order, the start
-- function, the types that legacy handlers need beside those that were read, and the locals of all functions, both function by function; nothing
-- else. No type has a name, nor has the module.
pub record HasTaken (features : Features) (r : wire.Module) (m : Contents) : Type 0 where
  pub bodies : List Said
  pub read : AllZip (ReadsBodyWith features r) (zip r.functions r.bodies) bodies
  pub types : List TypeDef
  pub have_types : type_slots m.types ≡ map Some types
  pub type_names : All (λ name. name ≡ Some None) (type_names m.types)
  pub functions : HoldsFunctions (types_of r) (imported imported_function 0 r.imports) (zip r.functions bodies) (functions m.funcs)
  pub handlers : InTurn (HoldsHandlers (types_of r) (tag_types_of r)) (zip r.functions bodies) functions.own.added (types_from 0 r.types) types
  pub locals : AllPlaced HoldsLocal 0 (flat_map (locals_said (types_of r)) (zip r.functions bodies)) (locals m.locals)
  pub exports : AllPlaced HoldsExport 0 r.exports (exports m.exports)
  pub start : option_map place m.start ≡ r.start
  pub imports : AllPlaced HoldsImport 0 (imports_after [] r.imports) (imports m.imports)
  pub tables : AllPlaced (HoldsTable (table_keeps (elements_of r))) 0 (tables_of r) (tables m.tables)
  pub memories : AllPlaced (HoldsMemory (memory_keeps (data_segments_of r))) 0 (memories_of r) (memories m.memories)
  pub tags : AllPlaced HoldsTag 0 (tags_of r) (tags m.tags)
  pub globals : AllPlaced HoldsGlobal 0 (globals_of r) (globals m.globals)
  pub elements : AllPlaced HoldsElement 0 (elements_of r) (elements m.elements)
  pub data_segments : AllPlaced HoldsData 0 (data_segments_of r) (data_segments m.data_)
  pub name : m.name ≡ None

-- the module holds these sections, and the locals of its functions begin there
pub record HasTakenWith (features : Features) (r : wire.Module) (m : Contents) (starts : List ℕ) : Type 0 where
  pub taken : HasTaken features r m
  pub starts_are : starts ≡ starts_of (types_of r) (length (imported imported_function 0 r.imports)) (zip r.functions taken.bodies)

-- taken in: the module holds the sections; refused: the bodies aren't read, or memory ran out
abbrev pub TakesSections : Features → wire.Module → Result (Contents × Vec ℕ Global × ℕ) Error → Type 0
TakesSections features r (Ok m) = HasTakenWith features r m.0 m.1.items
TakesSections features r (Err (Memory e)) = Unit {0}
TakesSections features r (Err (InvalidWasm kind)) = (bodies : List Said) → AllZip (ReadsBodyWith features r) (zip r.functions r.bodies) bodies → ⊥
TakesSections features r (Err _) = ⊥

-- ---- for the functions inside

-- what a body may name under these types, and the types of tags by their places
abbrev pub context_under : {L : Type 0} → Under L → ModuleTypes → Context
context_under u types = context (ids_at u.indices.now) (is_function_at types) u.features.now

abbrev pub tags_under : {L : Type 0} → Under L → ℕ → Option ℕ
tags_under u = tag_places u.tag_types.now

-- the types by their places
abbrev pub types_in : ModuleTypes → ℕ → Option TypeDef
types_in types = item_at (type_slots types)

-- what the indices of types lead to is there, and so are the types of tags
pub record AreThere (names : Lookup) (tags : ℕ → Option ℕ) (slots : List (Option TypeDef)) : Type 0 where
  pub indexed : (t found : ℕ) → names Types t ≡ Some found → found < length slots
  pub of_tags : (tag ty : ℕ) → tags tag ≡ Some ty → ty < length slots

-- the bytes of the body of a function of this type say this, as far as the types are known by their places
abbrev pub SaysUnder : Context → (ℕ → Option TypeDef) → ℕ × wire.Body → Said → Type 0
SaysUnder c types f said = BodyReads c (locals_from 0 (length (params_of (types f.0)) + length said.0)) f.1.bytes said.0 said.1

-- locals of these types stand behind the others
abbrev pub AddsLocalsOf : List (ValType ℕ) → (old new : List (Option LocalItem)) → Type 0
AddsLocalsOf types old new = AddsPlaced HoldsLocal types old new

-- the export stands behind the others
abbrev pub AddsExport : entries.Export → (old new : List (Option ExportValue)) → Type 0
AddsExport e old new = (slot : Option ExportValue) × ((new ≡ old ++ slot ∷ []) × HoldsExport (length old) e slot)

-- the types that the handlers of a body need are found or added, and a slot holds a function with their places
abbrev pub AddsHandlersOf : (types : ℕ → Option TypeDef) (tags : ℕ → Option ℕ) → ℕ × Said → Option FunctionValue → (old new : Slots) → Type 0
AddsHandlersOf types tags f slot old new = AddsTypes (handlers_of types tags f.1.1) old new (view.handlers_at slot)

-- the body is read, a slot holds the function, its locals are added, and the types of its handlers found or added
pub record IsTaken (c : Context) (types : ℕ → Option TypeDef) (tags : ℕ → Option ℕ) (id : ℕ) (old_types new_types : Slots) (old new : List (Option LocalItem)) (f : ℕ × wire.Body) (slot : Option FunctionValue) : Type 0 where
  pub said : Said
  pub read : SaysUnder c types f said
  pub held : HoldsFunction types id (length old) (f.0, said) slot
  pub added : AddsLocalsOf (locals_said types (f.0, said)) old new
  pub handlers : AddsHandlersOf types tags (f.0, said) slot old_types new_types

-- a function's type and what its body says
abbrev pub IsSaid : Context → (ℕ → Option TypeDef) → ℕ × wire.Body → ℕ × Said → Type 0
IsSaid c types f said = (said.0 ≡ f.0) × SaysUnder c types f said.1

-- the bodies are read, and the functions stand behind the others; their locals are all that there are, and begin there, and the types of their
-- handlers are found or added in turn
pub record AreTaken (c : Context) (types : ℕ → Option TypeDef) (tags : ℕ → Option ℕ) (fs : List (ℕ × wire.Body)) (all : List (Option LocalItem)) (old_types new_types : Slots) (old new : List (Option FunctionValue)) (starts : List ℕ) : Type 0 where
  pub said : List (ℕ × Said)
  pub read : AllZip (IsSaid c types) fs said
  pub functions : AddsFunctions types said old new
  pub locals : AllPlaced HoldsLocal 0 (flat_map (locals_said types) said) all
  pub handlers : InTurn (AddsHandlersOf types tags) said functions.added old_types new_types
  pub starts_are : starts ≡ starts_of types (length old) said

-- one more slot holds the function; refused: its body isn't read, or memory ran out
abbrev pub TakesFunction : Context → (types : ℕ → Option TypeDef) (tags : ℕ → Option ℕ) → ℕ × wire.Body → (old_types new_types : Slots) (old_locals new_locals : List (Option LocalItem)) (old new : List (Option FunctionValue)) → Result Unit Unread → Type 0
TakesFunction c types tags f old_types new_types old_locals new_locals old new (Ok u) = (slot : Option FunctionValue) × ((new ≡ old ++ slot ∷ []) × IsTaken c types tags (length old) old_types new_types old_locals new_locals f slot)
TakesFunction c types tags f old_types new_types old_locals new_locals old new (Err (Body index)) = (index ≡ length old) × ((said : Said) → SaysUnder c types f said → ⊥)
TakesFunction c types tags f old_types new_types old_locals new_locals old new (Err (Fails (Memory e))) = Unit {0}
TakesFunction c types tags f old_types new_types old_locals new_locals old new (Err (Fails _)) = ⊥

-- the functions, their locals and the types of their handlers are added; refused: this is the first whose body isn't read, or memory ran out
abbrev pub TakesFunctions : Context → (types : ℕ → Option TypeDef) (tags : ℕ → Option ℕ) → List (ℕ × wire.Body) → ModuleLocals → (old_types new_types : Slots) (old new : List (Option FunctionValue)) → Result (Vec ℕ Global) Unread → Type 0
TakesFunctions c types tags fs all old_types new_types old new (Ok starts) = AreTaken c types tags fs (locals all) old_types new_types old new starts.items
TakesFunctions c types tags fs all old_types new_types old new (Err (Body index)) = IsFirstOf (SaysUnder c types) (length old) fs index
TakesFunctions c types tags fs all old_types new_types old new (Err (Fails (Memory e))) = Unit {0}
TakesFunctions c types tags fs all old_types new_types old new (Err (Fails _)) = ⊥

-- Some contents hold what imports brought, and m is these with the tags of the sections, and their functions, whose locals begin there.
pub record HasFunctions (features : Features) (r : wire.Module) (m : Contents) (starts : List ℕ) : Type 0 where
  pub brought : Contents
  pub begun : HoldsImported r brought
  pub others : m ≡ record brought { types = m.types; locals = m.locals; funcs = m.funcs; tags = m.tags }
  pub tags : AllPlaced HoldsTag 0 (tags_of r) (tags m.tags)
  pub taken : AreTaken (context_with features r) (types_of r) (tag_types_of r) (zip r.functions r.bodies) (locals m.locals) (slots_of brought.types) (slots_of m.types) (functions brought.funcs) (functions m.funcs) starts

-- the tags and functions are there; refused: this is the first whose body isn't read, or memory ran out
abbrev pub TakesBodies : Features → wire.Module → Result (Contents × Vec ℕ Global × ℕ) Unread → Type 0
TakesBodies features r (Ok m) = HasFunctions features r m.0 m.1.items
TakesBodies features r (Err (Body index)) = IsFirstUnread features r (Some index)
TakesBodies features r (Err (Fails (Memory e))) = Unit {0}
TakesBodies features r (Err (Fails _)) = ⊥
