-- A module of which one export is gone and another has a new name ("Structure > Modules > Exports").
use Rattle.std.specs.Prelude.{ℕ, List, Option, Some, None, Result, MatchResult, slice_set, ◌≡◌, ◌⊎◌, ⊤}
use Rattle.std.specs.Global.{Vec}
use Rattle.walrus.specs.Model.Config.{Config}
use Rattle.walrus.specs.Items.Error.{Error}
use Rattle.walrus.specs.Items.Error.TheVariants.{Caller, Memory, NotFound}
use Rattle.walrus.specs.Items.Exports.{ExportValue, ModuleExports, exports, is_named}
use Rattle.walrus.specs.Items.Searches.{first}
use Rattle.walrus.specs.Contents.Contents.{Contents}
use Rattle.walrus.specs.Edits.{AnswersEdited}

-- the first export of this name, with its place
abbrev pub named : List ℕ → List (Option ExportValue) → Option (ℕ × ExportValue)
named name all = first (is_named name) all

-- the export has this name
abbrev pub with_name : List ℕ → ExportValue → ExportValue
with_name name e = record e { name = name }

-- the first export of this name was there and is gone
pub record Drops (name : List ℕ) (old new : List (Option ExportValue)) : Type 0 where
  pub export : ℕ × ExportValue
  pub found : named name old ≡ Some export
  pub gone : new ≡ slice_set old export.0 None

-- the first export of the one name has the other, which none had
pub record Renames (from to : List ℕ) (old new : List (Option ExportValue)) : Type 0 where
  pub export : ℕ × ExportValue
  pub found : named from old ≡ Some export
  pub free : named to old ≡ None
  pub renamed : new ≡ slice_set old export.0 (Some (with_name to export.1))

-- one export is gone; of those that are left one is renamed
pub record RenamesIn (from to dropped : List ℕ) (old new : ModuleExports) : Type 0 where
  pub left : ModuleExports
  pub drops : Drops dropped (exports old) (exports left)
  pub renames : Renames from to (exports left) (exports new)

-- why not: none has the name `dropped`, or none of those that are left has the one name, or one of them the other
abbrev pub RefusesIn : (from to dropped : List ℕ) → List (Option ExportValue) → Error → Type 0
RefusesIn from to dropped old (Memory e) = ⊤
RefusesIn from to dropped old NotFound = (named dropped old ≡ None) ⊎ ((left : List (Option ExportValue)) × Drops dropped old left × (named from left ≡ None))
RefusesIn from to dropped old (Caller text) = (left : List (Option ExportValue)) × Drops dropped old left × ((e : ℕ × ExportValue) × (named to left ≡ Some e))
RefusesIn from to dropped old _ = ⊥

abbrev pub EditsExports : (from to dropped : List ℕ) → (old new : ModuleExports) → Result (Unit {0}) Error → Type 0
EditsExports from to dropped old new result = MatchResult result (λ done. RenamesIn from to dropped old new) (RefusesIn from to dropped (exports old))

-- of what is held exports were edited so, and nothing else changed
pub record RenamesHeld (from to dropped : List ℕ) (old new : Contents) : Type 0 where
  pub exports : RenamesIn from to dropped old.exports new.exports
  pub others : new ≡ record old { exports = new.exports }

-- why it isn't
abbrev pub RefusesRename : (from to dropped : List ℕ) → Contents → Error → Type 0
RefusesRename from to dropped m e = RefusesIn from to dropped (exports m.exports) e

-- the module with the new name, or a refusal with its cause
abbrev pub AnswersRenamed : Config → (bytes from to dropped : List ℕ) → Result (Vec ℕ) Error → Type 0
AnswersRenamed c bytes from to dropped result = AnswersEdited (RenamesHeld from to dropped) (RefusesRename from to dropped) c bytes result
