-- Why an order isn't carried out, and what a refusal says: of invalid bytes also what is wrong with them, and of NAMEs which one fits nothing, where that
-- was found.
use Rattle.std.specs.Prelude.{List, ◌++◌, ℕ, Option, Some, None, Result, Ok, Err, codes, ◌≡◌}
use Rattle.std.specs.Global.{Vec}
use Rattle.walrus_sections.specs.Choice.{Choice}
use Rattle.walrus_tools.specs.ChosenModule.{TellsOfParsed}
use Rattle.walrus_tools.specs.Faults.{Finds, WordsFault}
use Rattle.walrus_tools.specs.Facade.{Config, Error, Fault, InvalidWasm, Module, NotFound, NotReplaceable, Read, ToolError, Write, error_text}
use Rattle.walrus_tools.specs.Wanted.{config_wanted}
use Rattle.mulkavesh.specs.Choices.{roots_of}
use Rattle.mulkavesh.specs.Visible.{shown}
use Rattle.mulkavesh.specs.declared.cause.Cause.{Cause}
use Rattle.mulkavesh.specs.declared.cause.Cause.TheVariants as cause
use Rattle.mulkavesh.specs.declared.order.Order.{Order}
use Rattle.mulkavesh.specs.declared.order.Work.{Work}
use Rattle.mulkavesh.specs.declared.order.Work.TheVariants as work

-- ---- the text of a refusal

-- what is said of a module that isn't accepted
abbrev pub refused_text : List ℕ
refused_text = codes "the input WebAssembly is invalid"

-- what isn't there
abbrev pub absent_text : Work → List ℕ
absent_text work.Strip = codes "one of the options fits no custom section"
absent_text work.Snip = codes "there is no such function"
absent_text work.Stub = codes "no function is imported so"
absent_text work.Why = codes "there is no such function or export"
absent_text _ = codes "one of the options fits no export"

-- what a refusal says, but for what is wrong with bytes that are invalid, and for which NAME fits nothing
abbrev pub refusal_text : Work → Error → List ℕ
refusal_text w (InvalidWasm kind) = refused_text
refusal_text w NotFound = absent_text w
refusal_text w NotReplaceable = codes "one of the functions is imported"
refusal_text w e = error_text e

-- what is said: this text where there is one, or else what the error says
abbrev pub said_text : Work → Error → Option (Vec ℕ) → List ℕ
said_text w e None = refusal_text w e
said_text w e (Some text) = text.items

-- ---- what is wrong with the bytes

-- the text says that the bytes are invalid, and behind it that this is wrong with them
abbrev pub WordsRefusal : (bytes : List ℕ) → Fault → (text : List ℕ) → Type 0
WordsRefusal bytes fault text = (words : List ℕ) × WordsFault bytes fault words × (text ≡ refused_text ++ (codes ": " ++ words))

-- the text says so of something that is wrong with them
abbrev pub SaysFault : Config → (bytes : List ℕ) → (text : List ℕ) → Type 0
SaysFault c bytes text = (fault : Fault) × Finds c bytes (Some fault) × WordsRefusal bytes fault text

-- ---- which NAME fits nothing

abbrev pub unfit_text : (name : List ℕ) → List ℕ
unfit_text name = codes "no export fits " ++ shown name

-- the text names the first of these choices that fits no export of the module that the bytes are
pub record SaysUnfit (c : Config) (bytes : List ℕ) (choices : List Choice) (text : List ℕ) : Type 0 where
  pub number : ℕ
  pub tells : TellsOfParsed c bytes choices (Some number)
  pub says : text ≡ unfit_text tells.tells.choice.name

-- ---- both

-- what is said of bytes that are refused by this error: that they are invalid, and how, or which NAME fits no export
abbrev pub SaysRefused : Order → (bytes : List ℕ) → Error → (text : List ℕ) → Type 0
SaysRefused o bytes (InvalidWasm kind) text = SaysFault (config_wanted o.wanted) bytes text
SaysRefused o bytes NotFound text = SaysUnfit (config_wanted o.wanted) bytes (roots_of o) text
SaysRefused o bytes _ text = ⊥

-- ---- the answer, with the error alone

abbrev pub error_of : Cause → ToolError
error_of cause.Read = Read
error_of cause.Write = Write
error_of (cause.Refused e said) = Module e

abbrev pub answer_of : {A : Type 0} → Result A Cause → Result A ToolError
answer_of (Ok made) = Ok made
answer_of (Err c) = Err (error_of c)
