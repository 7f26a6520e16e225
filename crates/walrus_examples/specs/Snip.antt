-- A module in which an export names a function that traps ("Structure > Modules > Exports").
use Rattle.std.specs.Prelude.{ℕ, List, [], ◌∷◌, ◌++◌, length, Option, Some, None, slice_set, ◌≡◌, ◌≢◌, ◌⊎◌}
use Rattle.walrus.specs.Base.Arena.{item_at}
use Rattle.walrus.specs.Base.Id.{place}
use Rattle.walrus.specs.Base.IdValue.{Id}
use Rattle.walrus.specs.Base.FunctionKey.{FunctionKey}
use Rattle.walrus.specs.Base.Operators.{function_item}
use Rattle.walrus.specs.Items.Function.{args_of, body_of, function_type, handlers_in}
use Rattle.walrus.specs.Items.LocalFunction.{LocalFunction}
use Rattle.walrus.specs.Items.FunctionKind.TheVariants.{Import, Local}
use Rattle.walrus.specs.Items.ImportedFunction.{ImportedFunction}
use Rattle.walrus.specs.Items.ExportItem.TheVariants.{Function}
use Rattle.walrus.specs.Items.Exports.{ExportValue, exports_item}
use Rattle.walrus.specs.Items.Functions.{FunctionValue}
use Rattle.walrus.specs.Items.Searches.{first}
use Rattle.walrus_tools.specs.Trap.{trap_ops}

-- a function is exported under this name
pub record Exports (name : List ℕ) (exports : List (Option ExportValue)) : Type 0 where
  pub at : ℕ
  pub value : ExportValue
  pub there : item_at exports at ≡ Some value
  pub named : value.name ≡ name
  pub id : Id FunctionKey
  pub is_function : value.item ≡ Function id

-- Of these functions and exports those are left: a function was exported under this name, and under no other before, that has a body; its export
-- names another function now, which came behind all others, takes the same parameters, is of the same type, and traps. Nothing else changed.
pub record SnipsIn (name : List ℕ) (functions functions_left : List (Option FunctionValue)) (exports exports_left : List (Option ExportValue)) : Type 0 where
  pub export : Exports name exports
  pub is_first : first (exports_item (function_item (place export.id))) exports ≡ Some (export.at, export.value)
  pub old : FunctionValue
  pub there : item_at functions (place export.id) ≡ Some old
  pub body : LocalFunction
  pub has_body : old.kind ≡ Local body
  pub id : Id FunctionKey
  pub trap : LocalFunction
  pub typed : function_type trap ≡ function_type body
  pub takes : args_of trap ≡ args_of body
  pub traps : body_of trap ≡ trap_ops
  pub no_handlers : handlers_in trap ≡ []
  pub behind : place id ≡ length functions
  pub comes : functions_left ≡ functions ++ Some (record { id = place id; kind = Local trap; name = None }) ∷ []
  pub named : exports_left ≡ slice_set exports export.at (Some (record (export.value) { item = Function id }))

-- the function of this export is exported before, under another name
pub record NamedBefore {name : List ℕ} {exports : List (Option ExportValue)} (export : Exports name exports) : Type 0 where
  pub export_before : ℕ × ExportValue
  pub found : first (exports_item (function_item (place export.id))) exports ≡ Some export_before
  pub other : export_before.1.name ≢ name

-- the function of this export is imported
pub record IsBrought {name : List ℕ} {exports : List (Option ExportValue)} (export : Exports name exports) (functions : List (Option FunctionValue)) : Type 0 where
  pub function : FunctionValue
  pub there : item_at functions (place export.id) ≡ Some function
  pub imported : ImportedFunction
  pub kind : function.kind ≡ Import imported

-- why a function that is exported under this name is not replaced: it has another name before this one, or it is imported
pub record IsKept (name : List ℕ) (functions : List (Option FunctionValue)) (exports : List (Option ExportValue)) : Type 0 where
  pub export : Exports name exports
  pub cause : NamedBefore export ⊎ IsBrought export functions
