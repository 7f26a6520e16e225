-- A module in which functions that imports brought are local, and trap ("Structure > Modules > Imports").
use Rattle.std.specs.Prelude.{ℕ, Bool, true, false, List, [], Option, Some, None, option_and_then, is_some, bytes_eq, if◌then◌else◌, ◌≡◌}
use Rattle.walrus.specs.Base.Arena.{item_at}
use Rattle.walrus.specs.Base.Id.{place}
use Rattle.walrus.specs.Base.IdValue.{Id}
use Rattle.walrus.specs.Base.FunctionKey.{FunctionKey}
use Rattle.walrus.specs.Items.Function.{body_of, function_type, handlers_in}
use Rattle.walrus.specs.Items.LocalFunction.{LocalFunction}
use Rattle.walrus.specs.Items.FunctionKind.{FunctionKind}
use Rattle.walrus.specs.Items.FunctionKind.TheVariants.{Import, Local, Uninitialized}
use Rattle.walrus.specs.Items.ImportedFunction.{ImportedFunction}
use Rattle.walrus.specs.Items.Functions.{FunctionValue}
use Rattle.walrus.specs.Items.Imports.{ImportValue, imported_function}
use Rattle.walrus_tools.specs.Trap.{trap_ops}

-- the function that an import from this module brings, if it is one
abbrev pub brought_from : List ℕ → ImportValue → Option (Id FunctionKey)
brought_from from i = if bytes_eq i.module_name from then imported_function i.kind else None

-- the function that the import at this slot brings, if it is there, from this module, and one of a function
abbrev pub function_from : List ℕ → Option ImportValue → Option (Id FunctionKey)
function_from from slot = option_and_then (brought_from from) slot

-- whether the import at this place is such a one
abbrev pub comes_from : List ℕ → List (Option ImportValue) → ℕ → Bool
comes_from from all p = is_some (function_from from (item_at all p))

-- an import of a function stands there
pub record BringsFunction (slot : Option ImportValue) : Type 0 where
  pub value : ImportValue
  pub there : slot ≡ Some value
  pub id : Id FunctionKey
  pub function : imported_function value.kind ≡ Some id

-- the place of the import that brings a function of this kind
abbrev pub import_place : FunctionKind → Option ℕ
import_place (Import i) = Some (place i.«import»)
import_place (Local l) = None
import_place (Uninitialized ty) = None

-- f, which was imported, is local under its id and its name, of its old type, and traps
pub record Traps (f : FunctionValue) (slot : Option FunctionValue) : Type 0 where
  pub imported : ImportedFunction
  pub was : f.kind ≡ Import imported
  pub function : LocalFunction
  pub is : slot ≡ Some (record f { kind = Local function })
  pub typed : function_type function ≡ imported.ty
  pub body : body_of function ≡ trap_ops
  pub no_handlers : handlers_in function ≡ []

-- Of these functions and imports those are left: each function that an import brought whose place `hits` traps, each other one is as it was;
-- and those imports are gone, and no others.
pub record StubsWhere (hits : ℕ → Bool) (functions left : List (Option FunctionValue)) (imports imports_left : List (Option ImportValue)) : Type 0 where
  pub traps : (j p : ℕ) (f : FunctionValue) → item_at functions j ≡ Some f → import_place f.kind ≡ Some p → hits p ≡ true → Traps f (item_at left j)
  pub others : (j : ℕ) → ((p : ℕ) (f : FunctionValue) → item_at functions j ≡ Some f → import_place f.kind ≡ Some p → hits p ≡ false) → item_at left j ≡ item_at functions j
  pub gone : (i : ℕ) → item_at imports_left i ≡ (if hits i then None else item_at imports i)
