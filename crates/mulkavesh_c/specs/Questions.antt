-- What a call under a choice of exports answers, by what is asked.
use Rattle.std.specs.Prelude.{ℕ, List, Ok, Err, ◌≡◌}
use Rattle.walrus_sections.specs.Choice.{Choice}
use Rattle.walrus_tools.specs.ChosenModule.{AnswersChosen}
use Rattle.walrus_tools.specs.DroppedList.{AnswersDroppedList}
use Rattle.walrus_tools.specs.ExportList.{AnswersExportList}
use Rattle.walrus_tools.specs.Facade.{Config}
use Rattle.walrus_tools.specs.FunctionList.{AnswersFunctions}
use Rattle.walrus_tools.specs.ImportList.{AnswersImportList}
use Rattle.walrus_tools.specs.ReasonAnswers.{AnswersCallerList, AnswersReasonList}
use Rattle.walrus_tools.specs.Weigh.{AnswersReport}
use Rattle.walrus_tools.specs.WeighText.{weighed_text}
use Rattle.walrus_tools.specs.declared.weigh.Weighed.{Weighed}
use Rattle.mulkavesh_c.specs.Answer.{Answer}
use Rattle.mulkavesh_c.specs.ChosenRoots.{FindsNothing}
use Rattle.mulkavesh_c.specs.Names.{UnderName}
use Rattle.mulkavesh_c.specs.declared.question.Question.{Question}
use Rattle.mulkavesh_c.specs.declared.question.Question.TheVariants.{Smaller, Report, Listed, Dropped, Exports, Imports, Why, Callers}

-- what is kept and dropped, as the lines of it
abbrev pub AnswersLines : Config → (bytes : List ℕ) → List Choice → Answer → Type 0
AnswersLines c bytes choices (Ok lines) = (told : Weighed) × AnswersReport c bytes choices (Ok told) × (lines.items ≡ weighed_text told)
AnswersLines c bytes choices (Err e) = AnswersReport c bytes choices (Err e)

-- why what this text means stays, as bytes
abbrev pub AnswersWhy : (text : List ℕ) → Config → (bytes : List ℕ) → List Choice → Answer → Type 0
AnswersWhy text c bytes choices answer = UnderName text (AnswersReasonList c bytes choices text) (FindsNothing c bytes) answer

-- what refers to what this text means, as bytes
abbrev pub AnswersCallers : (text : List ℕ) → Config → (bytes : List ℕ) → List Choice → Answer → Type 0
AnswersCallers text c bytes choices answer = UnderName text (AnswersCallerList c bytes choices text) (FindsNothing c bytes) answer

-- the answer to a question
abbrev pub AnswersTo : Question → Config → (bytes : List ℕ) → List Choice → Answer → Type 0
AnswersTo Smaller = AnswersChosen
AnswersTo Report = AnswersLines
AnswersTo Listed = AnswersFunctions
AnswersTo Dropped = AnswersDroppedList
AnswersTo Exports = AnswersExportList
AnswersTo Imports = AnswersImportList
AnswersTo (Why text) = AnswersWhy text.now
AnswersTo (Callers text) = AnswersCallers text.now
