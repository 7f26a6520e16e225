-- A module in which each function with a body begins with a call of an imported one ("Structure > Modules > Imports", "Structure >
-- Instructions > Control Instructions").
use Rattle.std.specs.Prelude.{◌≡◌, ◌≢◌, ℕ, List, [], ◌∷◌, length, map, Option, Some, None}
use Rattle.std.specs.List.{AllZip}
use Rattle.walrus.specs.Base.Arena.{item_at}
use Rattle.walrus.specs.Base.Id.{place}
use Rattle.walrus.specs.Base.IdValue.{Id}
use Rattle.walrus.specs.Base.FunctionKey.{FunctionKey}
use Rattle.walrus.specs.Base.ImportKey.{ImportKey}
use Rattle.walrus.specs.Base.TypeKey.{TypeKey}
use Rattle.walrus.specs.Base.Alone.{FoundOrAdded}
use Rattle.walrus.specs.Base.Composite.{function_of}
use Rattle.walrus.specs.Base.ModuleTypes.{type_names, type_slots}
use Rattle.walrus.specs.Base.ModuleTypesValue.{ModuleTypes}
use Rattle.walrus.specs.Code.Location.{location}
use Rattle.walrus.specs.Ir.Instructions.{call_op, nowhere}
use Rattle.walrus.specs.Items.FunctionKind.{FunctionKind}
use Rattle.walrus.specs.Items.FunctionKind.TheVariants.{Import, Local, Uninitialized}
use Rattle.walrus.specs.Items.ImportKind.TheVariants.{Function}
use Rattle.walrus.specs.Items.Function.{KeepsOthers, body_of, locations_of}
use Rattle.walrus.specs.Items.LocalFunction.{LocalFunction}
use Rattle.walrus.specs.Items.Functions.{FunctionValue, ModuleFunctions, functions}
use Rattle.walrus.specs.Items.Imports.{ImportValue, ModuleImports, imports}
use Rattle.walrus.specs.Modules.Imported.{IsImported}

-- ---- a call in front

-- in front of the operators of a function stands a call of this function, which came from nowhere; nothing else changed
pub record CallsFirst (called : ℕ) (old new : LocalFunction) : Type 0 where
  pub in_front : body_of new ≡ call_op called ∷ body_of old
  pub from_nowhere : map location (locations_of new) ≡ nowhere ∷ map location (locations_of old)
  pub others : KeepsOthers old new

-- so a function with a body begins; one without is as it was
abbrev pub KindCalls : (called : ℕ) → (old new : FunctionKind) → Type 0
KindCalls called (Local f) new = (g : LocalFunction) × (new ≡ Local g) × CallsFirst called f g
KindCalls called (Import i) new = new ≡ Import i
KindCalls called (Uninitialized ty) new = new ≡ Uninitialized ty

-- the same of what stands at a place: its id and its name stay, and where nothing was nothing is
abbrev pub SlotCalls : (called : ℕ) → (old new : Option FunctionValue) → Type 0
SlotCalls called None new = new ≡ None
SlotCalls called (Some f) new = (kind : FunctionKind) × (new ≡ Some (record f { kind = kind })) × KindCalls called f.kind kind

-- of these functions the one at place p begins so, and the others are as they were
pub record PlaceCalls (called p : ℕ) (old new : List (Option FunctionValue)) : Type 0 where
  pub calls : SlotCalls called (item_at old p) (item_at new p)
  pub others : (i : ℕ) → i ≢ p → item_at new i ≡ item_at old i
  pub same_length : length new ≡ length old

-- ---- an import more

-- An import of a function stands behind all others, and the function behind all others: of the type that takes and gives nothing, which was
-- there or stands behind all others.
pub record ImportsIn (from name : List ℕ) (types types_left : ModuleTypes) (functions functions_left : List (Option FunctionValue)) (imports imports_left : List (Option ImportValue)) (called : Id FunctionKey) : Type 0 where
  pub ty : Id TypeKey
  pub typed : FoundOrAdded (function_of [] []) (type_slots types) (type_slots types_left) (type_names types) (type_names types_left) (place ty)
  pub import_id : Id ImportKey
  pub imported : IsImported (called, import_id) functions functions_left imports imports_left from name (λ own brought_by. record { id = own; kind = Import (record { ty = ty; «import» = brought_by }); name = None }) Function

-- with that import, each function with a body begins with a call of what it brings
pub record CountsIn (from name : List ℕ) (types types_left : ModuleTypes) (funcs funcs_left : ModuleFunctions) (imps imps_left : ModuleImports) : Type 0 where
  pub called : Id FunctionKey
  pub with_one : List (Option FunctionValue)
  pub imported : ImportsIn from name types types_left (functions funcs) with_one (imports imps) (imports imps_left) called
  pub calls : AllZip (SlotCalls (place called)) with_one (functions funcs_left)
