-- What a contract sees of the imports of a module ("Structure > Modules > Imports").
use Rattle.std.specs.Prelude.{ℕ, Bool, true, false, ◌&&◌, List, Option, Some, None, option_and_then, bytes_eq}
use Rattle.std.specs.String.{string_bytes}
use Rattle.walrus_base.specs.Id.{place}
use Rattle.walrus_base.specs.declared.keys.ImportKey.{ImportKey}
use Rattle.walrus_base.specs.declared.id.Id.{Id}
use Rattle.walrus_base.specs.declared.keys.FunctionKey.{FunctionKey}
use Rattle.walrus_base.specs.Operators.{Item}
use Rattle.walrus_items.specs.Items.{is_item}
use Rattle.walrus_items.specs.Kinds.{imported}
use Rattle.walrus_items.specs.Marks.{has_item}
use Rattle.walrus_items.specs.Searches.{first}
use Rattle.walrus_items.specs.Held.{held, held_left, held_entries_left}
use Rattle.walrus_items.specs.declared.items.Items.{Items}
use Rattle.walrus_items.specs.declared.items.ItemIter.{ItemIter}
use Rattle.walrus_items.specs.declared.items.ItemEntries.{ItemEntries}
use Rattle.walrus_items.specs.declared.imports.Import.{Import}
use Rattle.walrus_items.specs.declared.kinds.ImportKind.{ImportKind}
use Rattle.walrus_items.specs.declared.kinds.ImportKind.TheVariants.{Function, Table, Memory, Global, Tag}
use Rattle.walrus_items.specs.declared.marks.ItemMarks.{ItemMarks}

-- the place of an import's own id, its two names, and what it imports
pub record ImportValue : Type 0 where
  pub id : ℕ
  pub module_name : List ℕ
  pub name : List ℕ
  pub kind : ImportKind

abbrev pub import_value : Import → ImportValue
import_value i = record { id = place i.id; module_name = string_bytes i.«module»; name = string_bytes i.name; kind = i.kind }

-- the function that is imported, if it is one
abbrev pub imported_function : ImportKind → Option (Id FunctionKey)
imported_function (Function f) = Some f
imported_function (Table t) = None
imported_function (Memory m) = None
imported_function (Global g) = None
imported_function (Tag t) = None

abbrev pub ModuleImports : Type 0
ModuleImports = Items ImportKey Import

-- the import or nothing at each place from 0 on
abbrev pub imports : ModuleImports → List (Option ImportValue)
imports all = held import_value all

-- the imports that are still to come
abbrev pub imports_left : ItemIter ImportKey Import → List ImportValue
imports_left left = held_left import_value left

-- the imports that are still to come, with their places
abbrev pub import_entries_left : ItemEntries ImportKey Import → List (ℕ × ImportValue)
import_entries_left left = held_entries_left import_value left

-- the import has these two names
abbrev pub is_import_of : (module_name name : List ℕ) → ImportValue → Bool
is_import_of module_name name i = bytes_eq i.module_name module_name && bytes_eq i.name name

-- what is imported is this item
abbrev pub imports_item : Item → ImportValue → Bool
imports_item x i = is_item (imported i.kind) x

-- what is imported is marked
abbrev pub stays_under : ItemMarks → ImportValue → Bool
stays_under marks i = has_item marks (imported i.kind)

-- what is imported is a function
abbrev pub is_function : ImportKind → Bool
is_function (Function f) = true
is_function (Table t) = false
is_function (Memory m) = false
is_function (Global g) = false
is_function (Tag t) = false

-- the import is a function's, and has these two names
abbrev pub is_function_of : (module_name name : List ℕ) → ImportValue → Bool
is_function_of module_name name i = is_import_of module_name name i && is_function i.kind

-- the first function that is imported by these two names
abbrev pub function_of : (module_name name : List ℕ) → List (Option ImportValue) → Option (Id FunctionKey)
function_of module_name name all = option_and_then (λ e. imported_function e.1.kind) (first (is_function_of module_name name) all)
