-- What a contract sees of the globals of a module ("Structure > Modules > Globals").
use Rattle.std.specs.Prelude.{ℕ, Bool, List, Option, Some, None}
use Rattle.walrus_base.specs.Id.{place}
use Rattle.walrus_base.specs.declared.keys.GlobalKey.{GlobalKey}
use Rattle.walrus_base.specs.Types.{ValType}
use Rattle.walrus_base.specs.declared.const_expr.ConstExpr.{ConstExpr}
use Rattle.walrus_base.specs.Value.{val_type}
use Rattle.walrus_items.specs.Seen.{text_of}
use Rattle.walrus_items.specs.Held.{held, held_left, held_entries_left}
use Rattle.walrus_items.specs.declared.items.Items.{Items}
use Rattle.walrus_items.specs.declared.items.ItemIter.{ItemIter}
use Rattle.walrus_items.specs.declared.items.ItemEntries.{ItemEntries}
use Rattle.walrus_items.specs.declared.globals.Global.{Global}
use Rattle.walrus_items.specs.declared.kinds.GlobalKind.{GlobalKind}
use Rattle.walrus_items.specs.declared.kinds.GlobalKind.TheVariants.{Import, Local}

-- The place of a global's own id, its type and flags, the place of the import that brings it, its initialiser, and the bytes
-- of its name.
pub record GlobalValue : Type 0 where
  pub id : ℕ
  pub ty : ValType ℕ
  pub mutable : Bool
  pub shared : Bool
  pub imported_by : Option ℕ
  pub initialiser : Option ConstExpr
  pub name : Option (List ℕ)

-- the place of the import that brings a global of this kind
abbrev pub global_import : GlobalKind → Option ℕ
global_import (Import i) = Some (place i)
global_import (Local e) = None

-- the initialiser of a global of this kind
abbrev pub global_init : GlobalKind → Option ConstExpr
global_init (Import i) = None
global_init (Local e) = Some e

abbrev pub global_value : Global → GlobalValue
global_value g = record {
  id = place g.id;
  ty = val_type g.ty;
  mutable = g.mutable;
  shared = g.shared;
  imported_by = global_import g.kind;
  initialiser = global_init g.kind;
  name = text_of g.name;
}

abbrev pub ModuleGlobals : Type 0
ModuleGlobals = Items GlobalKey Global

-- the global or nothing at each place from 0 on
abbrev pub globals : ModuleGlobals → List (Option GlobalValue)
globals all = held global_value all

-- the globals that are still to come
abbrev pub globals_left : ItemIter GlobalKey Global → List GlobalValue
globals_left left = held_left global_value left

-- the globals that are still to come, with their places
abbrev pub global_entries_left : ItemEntries GlobalKey Global → List (ℕ × GlobalValue)
global_entries_left left = held_entries_left global_value left
