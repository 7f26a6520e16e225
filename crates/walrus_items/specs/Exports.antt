-- What a contract sees of the exports of a module ("Structure > Modules > Exports").
use Rattle.std.specs.Prelude.{ℕ, Bool, true, false, ◌&&◌, List, Option, Some, None, option_and_then, bytes_eq}
use Rattle.std.specs.String.{string_bytes}
use Rattle.walrus_base.specs.Id.{place}
use Rattle.walrus_base.specs.declared.keys.ExportKey.{ExportKey}
use Rattle.walrus_base.specs.declared.id.Id.{Id}
use Rattle.walrus_base.specs.declared.keys.FunctionKey.{FunctionKey}
use Rattle.walrus_base.specs.Operators.{Item}
use Rattle.walrus_items.specs.Items.{is_item}
use Rattle.walrus_items.specs.Kinds.{exported}
use Rattle.walrus_items.specs.Searches.{first}
use Rattle.walrus_items.specs.Held.{held, held_left, held_entries_left}
use Rattle.walrus_items.specs.declared.items.Items.{Items}
use Rattle.walrus_items.specs.declared.items.ItemIter.{ItemIter}
use Rattle.walrus_items.specs.declared.items.ItemEntries.{ItemEntries}
use Rattle.walrus_items.specs.declared.exports.Export.{Export}
use Rattle.walrus_items.specs.declared.kinds.ExportItem.{ExportItem}
use Rattle.walrus_items.specs.declared.kinds.ExportItem.TheVariants.{Function, Table, Memory, Global, Tag}

-- the place of an export's own id, its name, and what it exports
pub record ExportValue : Type 0 where
  pub id : ℕ
  pub name : List ℕ
  pub item : ExportItem

abbrev pub export_value : Export → ExportValue
export_value e = record { id = place e.id; name = string_bytes e.name; item = e.item }

-- the function that is exported, if it is one
abbrev pub exported_function : ExportItem → Option (Id FunctionKey)
exported_function (Function f) = Some f
exported_function (Table t) = None
exported_function (Memory m) = None
exported_function (Global g) = None
exported_function (Tag t) = None

abbrev pub ModuleExports : Type 0
ModuleExports = Items ExportKey Export

-- the export or nothing at each place from 0 on
abbrev pub exports : ModuleExports → List (Option ExportValue)
exports all = held export_value all

-- the exports that are still to come
abbrev pub exports_left : ItemIter ExportKey Export → List ExportValue
exports_left left = held_left export_value left

-- the exports that are still to come, with their places
abbrev pub export_entries_left : ItemEntries ExportKey Export → List (ℕ × ExportValue)
export_entries_left left = held_entries_left export_value left

-- the export has this name
abbrev pub is_named : List ℕ → ExportValue → Bool
is_named name e = bytes_eq e.name name

-- what is exported is this item
abbrev pub exports_item : Item → ExportValue → Bool
exports_item x e = is_item (exported e.item) x

-- what is exported is a function
abbrev pub is_function : ExportItem → Bool
is_function (Function f) = true
is_function (Table t) = false
is_function (Memory m) = false
is_function (Global g) = false
is_function (Tag t) = false

-- the export is a function's, and has this name
abbrev pub is_function_named : List ℕ → ExportValue → Bool
is_function_named name e = is_named name e && is_function e.item

-- the first function that is exported under this name
abbrev pub function_named : List ℕ → List (Option ExportValue) → Option (Id FunctionKey)
function_named name all = option_and_then (λ e. exported_function e.1.item) (first (is_function_named name) all)
