-- The function that is meant by a name ("Structure > Values > Names", "Structure > Modules > Exports").
use Rattle.std.specs.Prelude.{ℕ, List, Option, Some, None, Result, Ok, Err, option_map, ◌≡◌}
use Rattle.walrus.specs.Base.Id.{place}
use Rattle.walrus.specs.Base.IdValue.{Id}
use Rattle.walrus.specs.Base.FunctionKey.{FunctionKey}
use Rattle.walrus.specs.Items.Error.{Error}
use Rattle.walrus.specs.Items.Error.TheVariants.{NotFound}
use Rattle.walrus.specs.Items.Exports.{ExportValue, exports, function_named}
use Rattle.walrus.specs.Items.Functions.{FunctionValue, functions, is_called}
use Rattle.walrus.specs.Items.Searches.{first}
use Rattle.walrus.specs.Contents.Contents.{Contents}

-- ---- of what a module holds

-- the first of two, if it is there, and else the second
abbrev pub or_else : {T : Type 0} → Option T → Option T → Option T
or_else (Some x) other = Some x
or_else None other = other

-- the place of the first function of this name; where none has it, of the first that is exported under it
abbrev pub function_called : (name : List ℕ) → List (Option FunctionValue) → List (Option ExportValue) → Option ℕ
function_called name functions exports = or_else (option_map (λ e. e.0) (first (is_called name) functions)) (option_map place (function_named name exports))

-- that function, or that there is none
abbrev pub FindsCalled : (name : List ℕ) → List (Option FunctionValue) → List (Option ExportValue) → Result (Id FunctionKey) Error → Type 0
FindsCalled name functions exports (Ok id) = function_called name functions exports ≡ Some (place id)
FindsCalled name functions exports (Err NotFound) = function_called name functions exports ≡ None
FindsCalled name functions exports (Err _) = ⊥

-- the place of the function that is meant in what is held
abbrev pub meant : (name : List ℕ) → Contents → Option ℕ
meant name m = function_called name (functions m.funcs) (exports m.exports)
