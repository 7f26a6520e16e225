-- What a module exports of which only chosen exports are left, and the same as bytes ("Structure > Modules > Exports").
use Rattle.std.specs.Prelude.{ℕ, ◌^◌, ◌≤◌, ◌⊎◌, List, ◌∷◌, ◌++◌, Result, length, map, ◌≡◌}
use Rattle.std.specs.Global.{Vec}
use Rattle.std.specs.String.{string_bytes}
use Rattle.walrus.specs.Base.Arena.{items}
use Rattle.walrus.specs.Base.Operators.{Item, Space, Types, Functions, Tables, Memories, Tags, Globals, Elements, DataSegments}
use Rattle.walrus.specs.Code.Code.{item_of}
use Rattle.walrus.specs.Model.Config.{Config}
use Rattle.walrus.specs.Items.Exports.{ExportValue, exports}
use Rattle.walrus.specs.Items.Kinds.{exported}
use Rattle.walrus.specs.Items.Error.{Error}
use Rattle.walrus_sections.specs.Choice.{Choice}
use Rattle.walrus_tools.specs.ChosenModule.{KeepsChosen, RefusesChosen}
use Rattle.walrus_sections.specs.Numbers.{no_name, number_bytes}
use Rattle.walrus.specs.Edited.{Edited}
use Rattle.walrus.specs.Edits.{RefusesEdit}
use Rattle.walrus.specs.Ends.{Answers}
use Rattle.walrus_tools.specs.Spelled.{AreLong, AreSpelled}
use Rattle.walrus_tools.specs.declared.tool.exports.Exported.{Exported}

-- an export: what is exported, and its name
pub record ExportedItem : Type 0 where
  pub item : Item
  pub name : List ℕ

-- that of an answer
abbrev pub exported_seen : Exported → ExportedItem
exported_seen e = record { item = item_of e.item; name = string_bytes e.name }

-- that of an export
abbrev pub export_told : ExportValue → ExportedItem
export_told e = record { item = exported e.item; name = e.name }

-- ---- from bytes to the list

-- the exports that are left where the chosen ones are, by rising id
pub record AreExports (c : Config) (bytes : List ℕ) (choices : List Choice) (told : List ExportedItem) : Type 0 where
  pub edited : Edited (KeepsChosen choices) c bytes
  pub is : told ≡ map export_told (items (exports edited.module_edited.exports))

-- the list, or a refusal with its cause
abbrev pub AnswersExports : Config → (bytes : List ℕ) → List Choice → Result (Vec Exported) Error → Type 0
AnswersExports c bytes choices result = Answers c bytes (λ (list : Vec Exported). AreExports c bytes choices (map exported_seen list.items)) ⊥ (RefusesEdit (RefusesChosen choices) c bytes) result

-- ---- the list as bytes

-- the number of a kind ("Binary Format > Modules > Export Section"); those that are never exported have the numbers behind
abbrev pub kind_number : Space → ℕ
kind_number Functions = 0
kind_number Tables = 1
kind_number Memories = 2
kind_number Globals = 3
kind_number Tags = 4
kind_number Types = 5
kind_number Elements = 6
kind_number DataSegments = 7

-- the kind of an item and its index
abbrev pub item_bytes : Item → List ℕ
item_bytes x = kind_number x.0 ∷ number_bytes x.1

-- the length of a name, and the name
abbrev pub text_bytes : (text : List ℕ) → List ℕ
text_bytes text = number_bytes (length text) ++ text

abbrev pub exported_bytes : ExportedItem → List ℕ
exported_bytes e = item_bytes e.item ++ text_bytes e.name

-- the index has more than 32 bits, or the name is too long
abbrev pub IsLongExport : ExportedItem → Type 0
IsLongExport e = (2 ^ 32 ≤ e.item.1) ⊎ (no_name ≤ length e.name)

-- the bytes of the list, or a refusal with its cause
abbrev pub AnswersExportList : Config → (bytes : List ℕ) → List Choice → Result (Vec ℕ) Error → Type 0
AnswersExportList c bytes choices result =
    Answers c bytes (λ (list : Vec ℕ). AreSpelled IsLongExport (AreExports c bytes choices) exported_bytes list.items) (AreLong IsLongExport (AreExports c bytes choices)) (RefusesEdit (RefusesChosen choices) c bytes) result
