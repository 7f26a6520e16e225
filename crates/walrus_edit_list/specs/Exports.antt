-- Exports that come, are written anew and go ("Structure > Modules > Exports").
use Rattle.std.specs.Prelude.{ℕ, List, [], ◌∷◌, ◌++◌, length, Option, Some, ◌≡◌, ◌⊎◌}
use Rattle.walrus_base.specs.Operators.{Item}
use Rattle.walrus_contents.specs.There.{IsRefusal}
use Rattle.walrus_contents.specs.View.{contents_view}
use Rattle.walrus_contents.specs.declared.parts.Contents.{Contents}
use Rattle.walrus_items.specs.Exports.{ExportValue, exports}
use Rattle.walrus_items.specs.Kinds.{exported}
use Rattle.walrus_items.specs.declared.error.Error.{Error}
use Rattle.walrus_items.specs.declared.kinds.ExportItem.{ExportItem}
use Rattle.walrus_model.specs.Live.{IsLive}
use Rattle.walrus_model.specs.Sections.{space_of}
use Rattle.walrus_module.specs.Edits.{OnlyExports}
use Rattle.wasm_entries.specs.Record.{Export}
use Rattle.walrus_edit_list.specs.Places.{ChangesAt, DeletesAt, IsGone}
use Rattle.walrus_edit_list.specs.Turns.{InTurn, RefusesOne}

-- the item that an export names: its index is its id
abbrev pub item_named : Export → Item
item_named e = (space_of e.kind, e.index)

-- this is the item that an export names, and it is there
abbrev pub IsNamed : Export → Contents → ExportItem → Type 0
IsNamed e m item = (exported item ≡ item_named e) × IsLive (contents_view m) (item_named e)

-- the item that an export names isn't there
abbrev pub NamesNothing : Export → Contents → Type 0
NamesNothing e m = IsLive (contents_view m) (item_named e) → ⊥

-- an export of an item stands behind the others
abbrev pub export_added : List ℕ → ExportItem → List (Option ExportValue) → List (Option ExportValue)
export_added name item old = old ++ Some (record { id = length old; name = name; item = item }) ∷ []

-- an export came, of what is there, behind the others
abbrev pub AddsExport : Export → (old new : Contents) → Type 0
AddsExport e old new =
    (item : ExportItem) × IsNamed e old item × (exports new.exports ≡ export_added e.name item (exports old.exports)) × OnlyExports old new

-- it doesn't come: what it names isn't there
abbrev pub RefusesExport : Export → Contents → Error → Type 0
RefusesExport e old error = IsRefusal (NamesNothing e old) error

-- each of these came, one behind the other
abbrev pub AddsExports : List Export → (old new : Contents) → Type 0
AddsExports es old new = InTurn AddsExport es old new

abbrev pub RefusesExports : List Export → Contents → Error → Type 0
RefusesExports es old error = RefusesOne AddsExport RefusesExport es old error

-- the export of this id has another name and names another item, which is there
abbrev pub SetsExport : ℕ → Export → (old new : Contents) → Type 0
SetsExport i e old new =
    (item : ExportItem) × IsNamed e old item
    × ChangesAt i (λ was. record was { name = e.name; item = item }) (exports old.exports) (exports new.exports) × OnlyExports old new

-- it isn't written anew: it isn't there, or what it is to name isn't
abbrev pub RefusesSetExport : ℕ → Export → Contents → Error → Type 0
RefusesSetExport i e old error = IsRefusal (IsGone (exports old.exports) i ⊎ NamesNothing e old) error

-- the export of this id is gone
abbrev pub DeletesExport : ℕ → (old new : Contents) → Type 0
DeletesExport i old new = DeletesAt i (exports old.exports) (exports new.exports) × OnlyExports old new

abbrev pub RefusesDeleteExport : ℕ → Contents → Error → Type 0
RefusesDeleteExport i old error = IsRefusal (IsGone (exports old.exports) i) error
