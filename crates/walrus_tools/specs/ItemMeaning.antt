-- Which item of a module a text means: by an index, by its own name, or by the name of an export ("Structure > Modules > Indices", "Structure > Modules
-- > Exports").
use Rattle.std.specs.Prelude.{ℕ, List, Option, Some, Result, Ok, Err, option_map, ◌≡◌}
use Rattle.walrus.specs.Base.Arena.{IsLive}
use Rattle.walrus.specs.Base.Operators.{Item, function_item}
use Rattle.walrus.specs.Code.Code.{item_of}
use Rattle.walrus.specs.Items.Exports.{ExportValue, exports}
use Rattle.walrus.specs.Items.Functions.{FunctionValue, functions, is_called}
use Rattle.walrus.specs.Items.Kinds.{exported}
use Rattle.walrus.specs.Items.Searches.{first}
use Rattle.walrus.specs.Items.Error.{Error}
use Rattle.walrus.specs.Items.Error.TheVariants.{NotFound}
use Rattle.walrus.specs.Code.ItemId.{ItemId}
use Rattle.walrus.specs.Contents.Contents.{Contents}
use Rattle.walrus_tools.specs.ExportNames.{named}
use Rattle.walrus_tools.specs.FunctionMeaning.{SaysIndex, SaysNone}
use Rattle.walrus_tools.specs.FunctionNames.{or_else}

-- the first function of this name; where none has it, what the first export of this name brings out
abbrev pub item_called : (name : List ℕ) → List (Option FunctionValue) → List (Option ExportValue) → Option Item
item_called name functions exports = or_else (option_map (λ f. function_item f.0) (first (is_called name) functions)) (option_map (λ e. exported e.1.item) (named name exports))

-- The text means an item: it is the index of this function. Or it is no index, and the item is called so.
pub data MeansItem (functions : List (Option FunctionValue)) (exports : List (Option ExportValue)) (text : List ℕ) (x : Item) : Type 0 where
  by_index : (index : ℕ) → SaysIndex text index → IsLive functions index → x ≡ function_item index → MeansItem functions exports text x
  by_name : SaysNone text → item_called text functions exports ≡ Some x → MeansItem functions exports text x

-- the item that the text means, or it means none
abbrev pub FindsItem : List (Option FunctionValue) → List (Option ExportValue) → (text : List ℕ) → Result ItemId Error → Type 0
FindsItem functions exports text (Ok item) = MeansItem functions exports text (item_of item)
FindsItem functions exports text (Err NotFound) = (x : Item) → MeansItem functions exports text x → ⊥
FindsItem functions exports text (Err _) = ⊥

-- the same of what is held
abbrev pub MeansIn : Contents → (text : List ℕ) → Item → Type 0
MeansIn m text x = MeansItem (functions m.funcs) (exports m.exports) text x
