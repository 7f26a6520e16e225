-- A module with one export more, of the function that has a given index in the input ("Structure > Modules > Exports").
use Rattle.std.specs.Prelude.{ℕ, List, [], ◌∷◌, ◌++◌, length, Option, Some, None, Result, MatchResult, ◌≡◌, ⊤}
use Rattle.std.specs.Global.{Vec}
use Rattle.walrus.specs.Base.Arena.{item_at}
use Rattle.walrus.specs.Base.Id.{place}
use Rattle.walrus.specs.Base.IdValue.{Id}
use Rattle.walrus.specs.Base.FunctionKey.{FunctionKey}
use Rattle.walrus.specs.Base.Operators.{Functions}
use Rattle.walrus.specs.Model.Config.{Config}
use Rattle.walrus.specs.Code.Indices.{ids_at}
use Rattle.walrus.specs.Code.IndicesToIds.{IndicesToIds}
use Rattle.walrus.specs.Items.Error.{Error}
use Rattle.walrus.specs.Items.Error.TheVariants.{Caller, Memory, NotFound}
use Rattle.walrus.specs.Items.ExportItem.TheVariants.{Function}
use Rattle.walrus.specs.Items.Exports.{ExportValue, exports}
use Rattle.walrus.specs.Items.Functions.{FunctionValue, functions}
use Rattle.walrus.specs.Contents.Contents.{Contents}
use Rattle.walrus.specs.Modules.Module.{Module}
use Rattle.walrus.specs.Edits.{AnswersEdited}
use Rattle.walrus_tools.specs.ExportNames.{named}

-- ---- exports

-- the export of a function at the place
abbrev pub export_at : ℕ → List ℕ → Id FunctionKey → ExportValue
export_at place name function = record { id = place; name = name; item = Function function }

-- an export of this function stands behind the others, of which none has its name
pub record AddsExport (function : Id FunctionKey) (name : List ℕ) (old new : List (Option ExportValue)) : Type 0 where
  pub free : named name old ≡ None
  pub added : new ≡ old ++ Some (export_at (length old) name function) ∷ []

-- why not: one has the name, or memory ran out
abbrev pub RefusesName : List ℕ → List (Option ExportValue) → Error → Type 0
RefusesName name old (Memory e) = ⊤
RefusesName name old (Caller text) = (e : ℕ × ExportValue) × (named name old ≡ Some e)
RefusesName name old _ = ⊥

-- ---- what the hook does with a module and the ids of its items

-- no function has the index, or the name is taken
abbrev pub RefusesIndexed : (index : ℕ) (name : List ℕ) → IndicesToIds → List (Option ExportValue) → Error → Type 0
RefusesIndexed index name ids old NotFound = ids_at ids Functions index ≡ None
RefusesIndexed index name ids old e = RefusesName name old e

module _ {S : Type 0} where
  -- the function that has the index is exported, and nothing else changed
  pub record AddsIndexed (index : ℕ) (name : List ℕ) (ids : IndicesToIds) (old new : Module S) : Type 0 where
    pub function : Id FunctionKey
    pub indexed : ids_at ids Functions index ≡ Some (place function)
    pub adds : AddsExport function name (exports old.exports) (exports new.exports)
    pub others : new ≡ record old { exports = new.exports }

  abbrev pub ExportsIndexed : (index : ℕ) (name : List ℕ) → IndicesToIds → (old new : Module S) → Result (Unit {0}) Error → Type 0
  ExportsIndexed index name ids old new answer = MatchResult answer (λ done. AddsIndexed index name ids old new) (RefusesIndexed index name ids (exports old.exports))

-- ---- from bytes to bytes: what was parsed has each function of the input at the place that is its index

-- of what is held the function at this place is exported too, and nothing else changed
pub record ExportsHeld (index : ℕ) (name : List ℕ) (old new : Contents) : Type 0 where
  pub function : FunctionValue
  pub there : item_at (functions old.funcs) index ≡ Some function
  pub id : Id FunctionKey
  pub at_index : place id ≡ index
  pub adds : AddsExport id name (exports old.exports) (exports new.exports)
  pub others : new ≡ record old { exports = new.exports }

-- why it isn't: no function is at the place, or the name is taken
abbrev pub RefusesExport : (index : ℕ) (name : List ℕ) → Contents → Error → Type 0
RefusesExport index name m NotFound = item_at (functions m.funcs) index ≡ None
RefusesExport index name m e = RefusesName name (exports m.exports) e

-- the module with the export, or a refusal with its cause
abbrev pub AnswersExport : Config → (bytes : List ℕ) → (index : ℕ) → (name : List ℕ) → Result (Vec ℕ) Error → Type 0
AnswersExport c bytes index name result = AnswersEdited (ExportsHeld index name) (RefusesExport index name) c bytes result
