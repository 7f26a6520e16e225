-- A module of which only chosen exports are left ("Structure > Modules > Exports"), and which choice fits none of them.
use Rattle.std.specs.Prelude.{◌≡◌, ℕ, List, [], Option, Result, MatchResult, ⊤}
use Rattle.std.specs.Global.{Vec}
use Rattle.walrus.specs.Model.Abstract.{Custom}
use Rattle.walrus.specs.Model.Config.{Config}
use Rattle.walrus.specs.Items.Exports.{ExportValue, exports}
use Rattle.walrus.specs.Items.Error.{Error}
use Rattle.walrus.specs.Items.Error.TheVariants.{Memory, NotFound}
use Rattle.walrus.specs.Contents.Contents.{Contents}
use Rattle.walrus.specs.Modules.Parsed.{IsParsed}
use Rattle.walrus.specs.Modules.Module.{Module}
use Rattle.walrus.specs.Headline.{RunsOn}
use Rattle.walrus_sections.specs.Choice.{Choice}
use Rattle.walrus_sections.specs.ExportChoice.{EachFits, IsChosen, OneFitsNone, TellsUnfit}
use Rattle.walrus.specs.Edits.{AnswersEdited, with_customs}
use Rattle.walrus.specs.Ends.{Answers}
use Rattle.walrus_tools.specs.KeptExports.{KeepsNamed, export_names}

-- ---- of exports

-- each choice fits one of the old exports, and of these exactly those are left whose names are chosen
pub record KeepsExports (choices : List Choice) (old new : List (Option ExportValue)) : Type 0 where
  pub fit : EachFits (export_names old) choices
  pub stay : KeepsNamed (IsChosen choices) old new

-- why nothing is done: a choice fits no export, or memory ran out
abbrev pub RefusesExports : List Choice → List (Option ExportValue) → Error → Type 0
RefusesExports choices all (Memory e) = ⊤
RefusesExports choices all NotFound = OneFitsNone (export_names all) choices
RefusesExports choices all _ = ⊥

-- ---- of a module in memory

module _ {S : Type 0} where
  -- of its exports the chosen ones are left, and nothing else changed
  pub record KeepsIn (choices : List Choice) (old new : Module S) : Type 0 where
    pub keeps : KeepsExports choices (exports old.exports) (exports new.exports)
    pub others : new ≡ record old { exports = new.exports }

  -- the same, or a refusal with its cause
  abbrev pub KeepsOrRefuses : List Choice → (old new : Module S) → Result (Unit {0}) Error → Type 0
  KeepsOrRefuses choices old new result = MatchResult result (λ done. KeepsIn choices old new) (RefusesExports choices (exports old.exports))

-- ---- from bytes to bytes

-- of what is held nothing but exports changed, of which the chosen ones are left
pub record KeepsChosen (choices : List Choice) (old new : Contents) : Type 0 where
  pub keeps : KeepsExports choices (exports old.exports) (exports new.exports)
  pub others : new ≡ record old { exports = new.exports }

-- why not
abbrev pub RefusesChosen : List Choice → Contents → Error → Type 0
RefusesChosen choices m e = RefusesExports choices (exports m.exports) e

-- the module of its chosen exports, or a refusal with its cause
abbrev pub AnswersChosen : Config → (bytes : List ℕ) → List Choice → Result (Vec ℕ) Error → Type 0
AnswersChosen c bytes choices result = AnswersEdited (KeepsChosen choices) (RefusesChosen choices) c bytes result

-- what is said of no choices is what a run comes to
abbrev pub NoneChosen : Type 0
NoneChosen = (c : Config) (bytes : List ℕ) (result : Result (Vec ℕ) Error) → AnswersChosen c bytes [] result → RunsOn c bytes (λ (output : Vec ℕ). output.items) result

-- ---- which choice fits no export

-- the bytes were parsed, and this is told of the exports of that
pub record TellsOfParsed (c : Config) (bytes : List ℕ) (choices : List Choice) (found : Option ℕ) : Type 0 where
  pub customs : List Custom
  pub module_parsed : Contents
  pub parsed : IsParsed c bytes (with_customs customs module_parsed)
  pub tells : TellsUnfit (export_names (exports module_parsed.exports)) choices found

-- what is told, or a refusal with its cause
abbrev pub AnswersUnfit : Config → (bytes : List ℕ) → List Choice → Result (Option ℕ) Error → Type 0
AnswersUnfit c bytes choices result = Answers c bytes (TellsOfParsed c bytes choices) ⊥ (λ e. ⊥) result
