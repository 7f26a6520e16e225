-- Globals that come, or are written anew ("Structure > Modules > Globals").
use Rattle.std.specs.Prelude.{ℕ, List, [], ◌∷◌, ◌++◌, length, Option, Some, None, slice_set, ◌≡◌, ◌⊎◌}
use Rattle.wasm_entries.specs.Record.{Global}
use Rattle.wasm_entries.specs.declared.record.RawGlobalType.{RawGlobalType}
use Rattle.walrus_base.specs.Arena.{item_at}
use Rattle.walrus_base.specs.Types.{ValType}
use Rattle.walrus_base.specs.declared.const_expr.ConstExpr.{ConstExpr}
use Rattle.walrus_constants.specs.Named.{named_global}
use Rattle.walrus_contents.specs.View.{global_of}
use Rattle.walrus_contents.specs.declared.parts.Contents.{Contents}
use Rattle.walrus_items.specs.Globals.{GlobalValue, globals}
use Rattle.walrus_items.specs.Imports.{ImportValue, imports}
use Rattle.walrus_items.specs.declared.error.Error.{Error}
use Rattle.walrus_model.specs.Abstract as abstract
use Rattle.walrus_model.specs.Sections as said
use Rattle.walrus_edit_list.specs.Ids.{HasTooMany, ids_of}
use Rattle.walrus_edit_list.specs.Places.{IsGone}
use Rattle.walrus_edit_list.specs.Refuses.{Refuses}
use Rattle.walrus_edit_list.specs.Turns.{InTurn, RefusesOne}

-- what an entry says, with the id for each number in it; nothing where one has none
abbrev pub global_in : Contents → Global → Option abstract.Global
global_in m g = named_global (ids_of m) (said.global_of g)

-- a global that an entry says, of the module's own, stands behind the others
pub record AddsGlobal (g : Global) (old new : Contents) : Type 0 where
  pub value : GlobalValue
  pub says : global_in old g ≡ Some (global_of value)
  pub own_id : value.id ≡ length (globals old.globals)
  pub unnamed : value.name ≡ None
  pub comes : globals new.globals ≡ globals old.globals ++ Some value ∷ []
  pub only : new ≡ record old { globals = new.globals }

-- it names what was never there
abbrev pub RefusesGlobal : Global → Contents → Error → Type 0
RefusesGlobal g m e = Refuses (global_in m g ≡ None) (HasTooMany m) e

-- each of these came, one behind the other
abbrev pub AddsGlobals : List Global → (old new : Contents) → Type 0
AddsGlobals gs old new = InTurn AddsGlobal gs old new

abbrev pub RefusesGlobals : List Global → Contents → Error → Type 0
RefusesGlobals gs m e = RefusesOne AddsGlobal RefusesGlobal gs m e

-- the global is of the module's own, with this type and this initialiser
abbrev pub defines : ValType ℕ → RawGlobalType → ConstExpr → GlobalValue → GlobalValue
defines ty raw initial g = record g { ty = ty; mutable = raw.mutable; shared = raw.shared; imported_by = None; initialiser = Some initial }

-- without the import of this place, if there is one
abbrev pub without : Option ℕ → List (Option ImportValue) → List (Option ImportValue)
without None all = all
without (Some at) all = slice_set all at None

-- the global of this id is what an entry says, of the module's own; it has its name, and the import that brought it is gone
pub record SetsGlobal (number : ℕ) (g : Global) (old new : Contents) : Type 0 where
  pub was : GlobalValue
  pub there : item_at (globals old.globals) number ≡ Some was
  pub value : GlobalValue
  pub says : global_in old g ≡ Some (global_of value)
  pub stays : (value.id ≡ was.id) × (value.name ≡ was.name)
  pub set : globals new.globals ≡ slice_set (globals old.globals) number (Some value)
  pub freed : imports new.imports ≡ without was.imported_by (imports old.imports)
  pub only : new ≡ record old { globals = new.globals; imports = new.imports }

-- it isn't there, or the entry names what was never there
abbrev pub RefusesSetGlobal : ℕ → Global → Contents → Error → Type 0
RefusesSetGlobal number g m e = Refuses (IsGone (globals m.globals) number ⊎ (global_in m g ≡ None)) (HasTooMany m) e
