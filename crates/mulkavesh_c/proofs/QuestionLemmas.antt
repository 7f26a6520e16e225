-- A refusal for a cause that every answer may have stands for the answer to a question.
use Rattle.std.proofs.Common.{ℕ, List}
use Rattle.std.specs.Prelude.{Err}
use Rattle.walrus_sections.specs.Choice.{Choice}
use Rattle.walrus_tools.specs.ChosenModule.{AnswersUnfit}
use Rattle.walrus_tools.specs.Facade.{Config, Error, InvalidWasm, Memory, TooLarge}
use Rattle.mulkavesh_c.specs.Questions.{AnswersTo}
use Rattle.mulkavesh_c.specs.declared.question.Question.{Question}
use Rattle.mulkavesh_c.specs.declared.question.Question.TheVariants.{Smaller, Report, Listed, Dropped, Exports, Imports, Why, Callers}

-- what unfit is refused for is a cause of every answer: memory ran out, or the bytes aren't accepted
pub passes : (question : Question) (c : Config) (bytes : List ℕ) (choices : List Choice) (e : Error) → AnswersUnfit c bytes choices (Err e) → AnswersTo question c bytes choices (Err e)
passes Smaller c bytes choices (Memory m) h = tt
passes Report c bytes choices (Memory m) h = tt
passes Listed c bytes choices (Memory m) h = tt
passes Dropped c bytes choices (Memory m) h = tt
passes Exports c bytes choices (Memory m) h = tt
passes Imports c bytes choices (Memory m) h = tt
passes (Why text) c bytes choices (Memory m) h = record { named = λ is. tt; nameless = λ isnt. tt }
passes (Callers text) c bytes choices (Memory m) h = record { named = λ is. tt; nameless = λ isnt. tt }
passes Smaller c bytes choices (InvalidWasm kind) h = h
passes Report c bytes choices (InvalidWasm kind) h = h
passes Listed c bytes choices (InvalidWasm kind) h = h
passes Dropped c bytes choices (InvalidWasm kind) h = h
passes Exports c bytes choices (InvalidWasm kind) h = h
passes Imports c bytes choices (InvalidWasm kind) h = h
passes (Why text) c bytes choices (InvalidWasm kind) h = record { named = λ is. h; nameless = λ isnt. h }
passes (Callers text) c bytes choices (InvalidWasm kind) h = record { named = λ is. h; nameless = λ isnt. h }
passes question c bytes choices TooLarge h = absurd h
passes question c bytes choices _ h = absurd h
