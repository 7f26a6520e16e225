-- What a contract sees of the functions of a module ("Structure > Modules > Functions").
use Rattle.std.specs.Prelude.{ℕ, Bool, List, [], ◌∷◌, ◌++◌, Option, Some, None, map}
use Rattle.std.specs.Option.{option_to_list}
use Rattle.walrus_base.specs.Id.{place}
use Rattle.walrus_base.specs.declared.keys.FunctionKey.{FunctionKey}
use Rattle.walrus_base.specs.Arena.{entries_left}
use Rattle.walrus_ir.specs.LocalFunction.{LocalFunction}
use Rattle.walrus_items.specs.Seen.{text_of, text_is}
use Rattle.walrus_items.specs.Held.{held, held_left, held_entries_left}
use Rattle.walrus_items.specs.declared.items.Items.{Items}
use Rattle.walrus_items.specs.declared.items.ItemIter.{ItemIter}
use Rattle.walrus_items.specs.declared.items.ItemEntries.{ItemEntries}
use Rattle.walrus_items.specs.declared.functions.Function.{Function}
use Rattle.walrus_items.specs.declared.function_kind.FunctionKind.{FunctionKind}
use Rattle.walrus_items.specs.declared.function_kind.FunctionKind.TheVariants.{Import, Local, Uninitialized}
use Rattle.walrus_items.specs.declared.functions.LocalFunctionIter.{LocalFunctionIter}

-- the place of a function's own id, its kind, and the bytes of its name
pub record FunctionValue : Type 0 where
  pub id : ℕ
  pub kind : FunctionKind
  pub name : Option (List ℕ)

abbrev pub function_value : Function → FunctionValue
function_value f = record { id = place f.id; kind = f.kind; name = text_of f.name }

abbrev pub ModuleFunctions : Type 0
ModuleFunctions = Items FunctionKey Function

-- the function or nothing at each place from 0 on
abbrev pub functions : ModuleFunctions → List (Option FunctionValue)
functions all = held function_value all

-- the functions that are still to come
abbrev pub functions_left : ItemIter FunctionKey Function → List FunctionValue
functions_left left = held_left function_value left

-- the functions that are still to come, with their places
abbrev pub function_entries_left : ItemEntries FunctionKey Function → List (ℕ × FunctionValue)
function_entries_left left = held_entries_left function_value left

-- the function's body with its place, if it has one
abbrev pub local_at : ℕ → FunctionKind → Option (ℕ × LocalFunction)
local_at number (Local f) = Some (number, f)
local_at number (Import i) = None
local_at number (Uninitialized ty) = None

-- the local functions among these, with their places
abbrev pub local_functions : List (ℕ × FunctionValue) → List (ℕ × LocalFunction)
local_functions [] = []
local_functions (e ∷ rest) = option_to_list (local_at e.0 e.1.kind) ++ local_functions rest

-- the local functions that are still to come, with their places
abbrev pub locals_left : LocalFunctionIter → List (ℕ × LocalFunction)
locals_left left = local_functions (map (λ e. (e.0, function_value e.1)) (entries_left left.rest))

-- the function has this name
abbrev pub is_called : List ℕ → FunctionValue → Bool
is_called name f = text_is name f.name
