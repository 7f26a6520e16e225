-- What a contract sees of the tables of a module ("Structure > Modules > Tables").
use Rattle.std.specs.Prelude.{ℕ, Bool, true, false, ◌&&◌, List, [], ◌∷◌, Option, Some, None, Result, Ok, Err, map, filter, option_map}
use Rattle.walrus_base.specs.Id.{place}
use Rattle.walrus_base.specs.declared.keys.TableKey.{TableKey}
use Rattle.walrus_base.specs.IdSet.{has_id}
use Rattle.walrus_base.specs.Types.{RefType, HeapType, OfHeap, FuncHeap}
use Rattle.walrus_base.specs.Value.{ref_type}
use Rattle.walrus_base.specs.declared.const_expr.ConstExpr.{ConstExpr}
use Rattle.walrus_items.specs.declared.error.Error.{Error}
use Rattle.walrus_items.specs.declared.error.Error.TheVariants.{SeveralFunctionTables}
use Rattle.walrus_items.specs.Seen.{text_of}
use Rattle.walrus_items.specs.Held.{held, held_left, held_entries_left}
use Rattle.walrus_items.specs.declared.items.Items.{Items}
use Rattle.walrus_items.specs.declared.items.ItemIter.{ItemIter}
use Rattle.walrus_items.specs.declared.items.ItemEntries.{ItemEntries}
use Rattle.walrus_items.specs.declared.tables.Table.{Table}

-- The place of a table's own id, its limits, the type of its elements, its initialiser, the place of the import that brings it, which
-- element segments it keeps, by their places, and the bytes of its name.
pub record TableValue : Type 0 where
  pub id : ℕ
  pub table64 : Bool
  pub initial : ℕ
  pub maximum : Option ℕ
  pub element : RefType ℕ
  pub initialiser : Option ConstExpr
  pub imported_by : Option ℕ
  pub segments : ℕ → Bool
  pub name : Option (List ℕ)

abbrev pub table_value : Table → TableValue
table_value t = record {
  id = place t.id;
  table64 = t.table64;
  initial = t.initial;
  maximum = t.maximum;
  element = ref_type t.element_ty;
  initialiser = t.init;
  imported_by = option_map place t.«import»;
  segments = has_id t.elem_segments;
  name = text_of t.name;
}

abbrev pub ModuleTables : Type 0
ModuleTables = Items TableKey Table

-- the table or nothing at each place from 0 on
abbrev pub tables : ModuleTables → List (Option TableValue)
tables all = held table_value all

-- the tables that are still to come
abbrev pub tables_left : ItemIter TableKey Table → List TableValue
tables_left left = held_left table_value left

-- the tables that are still to come, with their places
abbrev pub table_entries_left : ItemEntries TableKey Table → List (ℕ × TableValue)
table_entries_left left = held_entries_left table_value left

-- all functions, and no others
abbrev pub is_any_function : HeapType ℕ → Bool
is_any_function (OfHeap FuncHeap) = true
is_any_function heap = false

-- functions or null ("Types > Reference Types": funcref)
abbrev pub is_function_reference : RefType ℕ → Bool
is_function_reference r = r.nullable && is_any_function r.heap

-- the own ids of the tables of functions among these, by their places
abbrev pub function_tables : List TableValue → List ℕ
function_tables all = map (λ t. t.id) (filter (λ t. is_function_reference t.element) all)

-- the only one of these tables, if there is one, or that there are several
abbrev pub main_table : List ℕ → Result (Option ℕ) Error
main_table [] = Ok None
main_table (t ∷ []) = Ok (Some t)
main_table (t ∷ other ∷ rest) = Err SeveralFunctionTables
