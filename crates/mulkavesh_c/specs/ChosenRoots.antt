-- A call under a choice of exports, and which NAME of it fits none.
use Rattle.std.specs.Prelude.{ℕ, Bool, true, false, List, length, Some, None, Err, ◌≡◌, ◌⊎◌, ⊤}
use Rattle.walrus_sections.specs.Choice.{AreChoices, Choice, IsList}
use Rattle.walrus_tools.specs.ChosenModule.{AnswersUnfit, TellsOfParsed}
use Rattle.walrus_tools.specs.Ends.{Answers, IfNotFound}
use Rattle.walrus_tools.specs.Facade.{Config, Error, NotFound}
use Rattle.walrus_tools.specs.Wanted.{config_wanted}
use Rattle.mulkavesh_c.specs.Answer.{Answer, Gives}
use Rattle.mulkavesh_c.specs.Flags.{IsKnown, wanted}
use Rattle.mulkavesh_c.specs.Names.{UnderChoices}
use Rattle.mulkavesh_c.specs.declared.answer.Made.{Made}

-- the bytes were parsed, and of the choices this is the number, from 0, of the first that fits no export of that; or each fits one, and this is how
-- many they are
abbrev pub IsUnfit : Config → (bytes : List ℕ) → List Choice → (number : ℕ) → Type 0
IsUnfit c bytes choices number = TellsOfParsed c bytes choices (Some number) ⊎ (TellsOfParsed c bytes choices None × (number ≡ length choices))

-- that number under the choices that the bytes of `choice` are
abbrev pub NumbersUnfit : Config → (bytes choice : List ℕ) → (number : ℕ) → Type 0
NumbersUnfit c bytes choice number = (choices : List Choice) → AreChoices choice choices → IsUnfit c bytes choices number

-- a refusal where a name is none that anything could have: memory ran out, or the bytes aren't accepted, or nothing is found
abbrev pub FindsNothing : Config → (bytes : List ℕ) → Answer → Type 0
FindsNothing c bytes answer = Answers c bytes (λ found. ⊥) ⊥ (IfNotFound ⊤) answer

-- whether it says that something isn't found
abbrev pub is_missing : Error → Bool
is_missing NotFound = true
is_missing _ = false

-- what was made is this answer, or a refusal for which no number can be told; and where something isn't found it has the number
pub record IsNumbered (c : Config) (bytes : List ℕ) (choices : List Choice) (answer : Answer) (made : Made) : Type 0 where
  pub answers : (made.answer ≡ answer) ⊎ ((e : Error) × (made.answer ≡ Err e) × AnswersUnfit c bytes choices (Err e))
  pub numbers : made.answer ≡ Err NotFound → IsUnfit c bytes choices made.number

-- what was made under the choices that the bytes of `choice` are, and where something isn't found with the number
pub record MakesChosen (c : Config) (bytes choice : List ℕ) (Answered : List Choice → Answer → Type 0) (made : Made) : Type 0 where
  pub answers : UnderChoices choice Answered made.answer
  pub numbers : made.answer ≡ Err NotFound → NumbersUnfit c bytes choice made.number

-- the flags are known, and the bytes are a list of choices
abbrev pub AreAsked : (flags : ℕ) (choice : List ℕ) → Type 0
AreAsked flags choice = IsKnown flags × IsList choice

-- what a call under a choice of exports comes to
abbrev pub GivesChosen : (flags : ℕ) (bytes choice : List ℕ) → (Answered : Config → List Choice → Answer → Type 0) → (old new : List ℕ) → (told status : ℕ) → Type 0
GivesChosen flags bytes choice Answered old new told status =
    Gives (AreAsked flags choice) (UnderChoices choice (Answered (config_wanted (wanted flags)))) (NumbersUnfit (config_wanted (wanted flags)) bytes choice) old new told status
