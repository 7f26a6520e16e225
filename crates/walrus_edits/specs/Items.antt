-- The items of a module that is read, as a list of records.
use Rattle.std.specs.Prelude.{ℕ, ◌^◌, ◌<◌, ◌≡◌, ◌⊎◌, List, length, Result}
use Rattle.std.specs.Global.{Vec}
use Rattle.walrus.specs.Base.Arena.{live_places}
use Rattle.walrus.specs.Base.ModuleTypes.{type_slots}
use Rattle.walrus.specs.Items.Error.{Error}
use Rattle.walrus.specs.Contents.Contents.{Contents}
use Rattle.walrus.specs.Model.Abstract.{Custom}
use Rattle.walrus.specs.Model.Config.{Config}
use Rattle.walrus.specs.Modules.Parsed.{IsParsed, TakenFrom}
use Rattle.walrus.specs.Theorem.Features.{features_of}
use Rattle.walrus.specs.Edits.{with_customs}
use Rattle.walrus.specs.Ends.{Answers}
use Rattle.wasm_entries.specs.Record.{Group}
use Rattle.walrus.specs.Forms.Spelling.{row_bytes}
use Rattle.wasm_forms.specs.Writing.{EachFits}
use Rattle.walrus.specs.Frames.Frames.{Frames}
use Rattle.walrus.specs.Frames.Record as wire
use Rattle.walrus_edits.specs.ItemRecords.{Told, ToldFits, told_bytes}
use Rattle.walrus_edits.specs.ItemValues.{AreGroups, AreTold}

-- the bytes frame these sections, and are parsed as a module that holds this, each item at the id of its index
pub record AreRead (c : Config) (bytes : List ℕ) (sections : wire.Module) (contents : Contents) : Type 0 where
  pub framed : Frames bytes sections
  pub customs : List Custom
  pub parsed : IsParsed c bytes (with_customs customs contents)
  pub taken : TakenFrom (features_of c) bytes contents

-- what is told of the module that the bytes are; its types are those of the input, and behind them those that legacy handlers need
pub record AreItems (c : Config) (bytes : List ℕ) (told : List Told) : Type 0 where
  pub sections : wire.Module
  pub contents : Contents
  pub read : AreRead c bytes sections contents
  pub groups : List Group
  pub grouped : AreGroups contents.types groups
  pub are : AreTold sections groups contents told

-- ---- the list

-- the list is the records of what is told, and each fits
pub record IsItemList (c : Config) (bytes list : List ℕ) : Type 0 where
  pub told : List Told
  pub items : AreItems c bytes told
  pub is : list ≡ row_bytes told_bytes told
  pub fits : EachFits ToldFits told

-- a count, a size or a limit in a record passes 32 bits
pub record HasLongRecord (c : Config) (bytes : List ℕ) : Type 0 where
  pub told : List Told
  pub items : AreItems c bytes told
  pub long : EachFits ToldFits told → ⊥

-- there are more than 2 ^ 32 types
pub record HasManyTypes (c : Config) (bytes : List ℕ) : Type 0 where
  pub sections : wire.Module
  pub contents : Contents
  pub read : AreRead c bytes sections contents
  pub many : 2 ^ 32 < length (live_places (type_slots contents.types))

-- the list, or a refusal with its cause
abbrev pub AnswersItems : Config → (bytes : List ℕ) → Result (Vec ℕ) Error → Type 0
AnswersItems c bytes result = Answers c bytes (λ (list : Vec ℕ). IsItemList c bytes list.items) (HasLongRecord c bytes ⊎ HasManyTypes c bytes) (λ e. ⊥) result
