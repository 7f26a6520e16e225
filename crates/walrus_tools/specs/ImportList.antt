-- Which imports of a module stay where what nothing reaches goes, and the same as bytes ("Structure > Modules > Imports").
use Rattle.std.specs.Prelude.{ℕ, ◌^◌, ◌≤◌, ◌⊎◌, List, ◌++◌, Result, length, map, ◌≡◌}
use Rattle.std.specs.Global.{Vec}
use Rattle.std.specs.String.{string_bytes}
use Rattle.walrus.specs.Base.Arena.{items}
use Rattle.walrus.specs.Base.Operators.{Item}
use Rattle.walrus.specs.Code.Code.{item_of}
use Rattle.walrus.specs.Model.Config.{Config}
use Rattle.walrus.specs.Model.Kept.{Kept}
use Rattle.walrus.specs.Items.Imports.{ImportValue, imports}
use Rattle.walrus.specs.Items.Kinds.{imported}
use Rattle.walrus.specs.Items.Error.{Error}
use Rattle.walrus_sections.specs.Choice.{Choice}
use Rattle.walrus_tools.specs.ChosenModule.{KeepsChosen, RefusesChosen}
use Rattle.walrus.specs.Edited.{Edited, edited_view}
use Rattle.walrus.specs.Edits.{RefusesEdit}
use Rattle.walrus.specs.Ends.{Answers}
use Rattle.walrus_tools.specs.ExportList.{item_bytes, text_bytes}
use Rattle.walrus_sections.specs.Numbers.{no_name}
use Rattle.walrus_tools.specs.Spelled.{AreLong, AreSpelled}
use Rattle.walrus_tools.specs.Those.{AreThose}
use Rattle.walrus_tools.specs.declared.tool.imports.Imported.{Imported}

-- an import: what is imported, from which module, and under which name
pub record ImportedItem : Type 0 where
  pub item : Item
  pub from : List ℕ
  pub name : List ℕ

-- that of an answer
abbrev pub imported_seen : Imported → ImportedItem
imported_seen i = record { item = item_of i.item; from = string_bytes i.«module»; name = string_bytes i.name }

-- that of an import
abbrev pub import_told : ImportValue → ImportedItem
import_told i = record { item = imported i.kind; from = i.module_name; name = i.name }

-- ---- from bytes to the list

-- of the chosen exports: each import whose item is kept, by rising id
pub record AreImports (c : Config) (bytes : List ℕ) (choices : List Choice) (told : List ImportedItem) : Type 0 where
  pub edited : Edited (KeepsChosen choices) c bytes
  pub kept : List ImportValue
  pub are : AreThose (λ i. Kept (edited_view edited) (imported i.kind)) (items (imports edited.module_edited.imports)) kept
  pub is : told ≡ map import_told kept

-- the list, or a refusal with its cause
abbrev pub AnswersImports : Config → (bytes : List ℕ) → List Choice → Result (Vec Imported) Error → Type 0
AnswersImports c bytes choices result = Answers c bytes (λ (list : Vec Imported). AreImports c bytes choices (map imported_seen list.items)) ⊥ (RefusesEdit (RefusesChosen choices) c bytes) result

-- ---- the list as bytes

abbrev pub imported_bytes : ImportedItem → List ℕ
imported_bytes i = item_bytes i.item ++ text_bytes i.from ++ text_bytes i.name

-- the index has more than 32 bits, or one of the names is too long
abbrev pub IsLongImport : ImportedItem → Type 0
IsLongImport i = (2 ^ 32 ≤ i.item.1) ⊎ ((no_name ≤ length i.from) ⊎ (no_name ≤ length i.name))

-- the bytes of the list, or a refusal with its cause
abbrev pub AnswersImportList : Config → (bytes : List ℕ) → List Choice → Result (Vec ℕ) Error → Type 0
AnswersImportList c bytes choices result =
    Answers c bytes (λ (list : Vec ℕ). AreSpelled IsLongImport (AreImports c bytes choices) imported_bytes list.items) (AreLong IsLongImport (AreImports c bytes choices)) (RefusesEdit (RefusesChosen choices) c bytes) result
