-- What one order comes to, for all that was read and all that was written, and what is told of it.
use Rattle.std.specs.Prelude.{ℕ, Bool, true, false, List, Option, Result, Ok, Err, IfSome, OnOk, ◌≡◌, ◌⊎◌, ⊤}
use Rattle.std.specs.Io.KnownBytes.{Appends, Keeps}
use Rattle.walrus_tools.specs.Facade.{CountsReads, CountsWrites, Error, IsUntouched, Memory, Module, Read, ReadsWhole, Stream, Tells, ToolError, Write, WroteFront, stream_of}
use Rattle.mulkavesh.specs.declared.cause.Cause.{Cause}
use Rattle.mulkavesh.specs.declared.cause.Cause.TheVariants as cause
use Rattle.mulkavesh.specs.declared.subcommands.Made.{Made}
use Rattle.mulkavesh.specs.declared.order.Work.{Work}
use Rattle.mulkavesh.specs.declared.order.Work.TheVariants as work
use Rattle.mulkavesh.specs.Cause.{refusal_text}
use Rattle.mulkavesh.specs.Message.{line}

-- ---- from the source to the sink

module _ (Answers : List ℕ → Result Made Error → Type 0) (from_old from_new to_old to_new : Option (List ℕ)) where
  -- all of the source was read, and this is what is made of it
  abbrev pub ReadsAndMakes : List ℕ → Result Made Error → Type 0
  ReadsAndMakes bytes result = ReadsWhole from_old from_new bytes × Answers bytes result

  -- a beginning of what is made was written
  abbrev pub WroteSome : Type 0
  WroteSome = (bytes : List ℕ) × ((made : Made) × (ReadsAndMakes bytes (Ok made) × WroteFront to_old to_new made.output.items))

  -- why an order is refused: memory ran out, or that is what is made of all that was read
  abbrev pub RefusesRead : Error → Type 0
  RefusesRead (Memory e) = ⊤
  RefusesRead e = (bytes : List ℕ) × ReadsAndMakes bytes (Err e)

  -- what is made of all of the source is written, or a beginning of it where the sink failed; refused before, nothing is written
  abbrev pub Carries : Result Made ToolError → Type 0
  Carries (Ok made) = ((bytes : List ℕ) × ReadsAndMakes bytes (Ok made)) × Appends to_old to_new made.output.items
  Carries (Err Write) = WroteSome
  Carries (Err Read) = Keeps to_old to_new
  Carries (Err (Module e)) = Keeps to_old to_new × RefusesRead e

  -- where there is a text, it says why all that was read is refused
  abbrev pub FindsRead : (Says : (bytes : List ℕ) → Error → (text : List ℕ) → Type 0) → Cause → Type 0
  FindsRead Says (cause.Refused e said) = IfSome said (λ text. (bytes : List ℕ) × ReadsAndMakes bytes (Err e) × Says bytes e text.items)
  FindsRead Says _ = ⊤

-- ---- what is told

-- what is told of bytes that aren't accepted: of `check`, what it notes of them, in a line with the source's name; and else the note itself
abbrev pub unaccepted_text : Work → (name note : List ℕ) → List ℕ
unaccepted_text work.Check name note = line name note
unaccepted_text _ name note = note

-- a source or a sink: its stream, its name, why its last call failed, and whether its reader went away
pub record Device : Type 0 where
  pub stream : Stream
  pub name : List ℕ
  pub trouble : List ℕ
  pub is_left : Bool

-- what its state says of that, before a call and behind it
abbrev pub device_of : {A : Type 0} → (bytes : A → Option (List ℕ)) → (failures : A → ℕ) → (name trouble : A → List ℕ) → (is_left : A → Bool)
    → (before behind : A) → Device
device_of bytes failures name trouble is_left before behind = record {
  stream = stream_of bytes failures before behind;
  name = name behind;
  trouble = trouble behind;
  is_left = is_left behind;
}

-- nothing is said where the sink's reader went away, and else this text
abbrev pub TellsUnlessLeft : (is_left : Bool) → (text : List ℕ) → (errors : Stream) → Type 0
TellsUnlessLeft true text errors = IsUntouched errors
TellsUnlessLeft false text errors = Tells errors text

-- what is said where the sink failed
abbrev pub TellsUnwritten : Device → (errors : Stream) → Type 0
TellsUnwritten to = TellsUnlessLeft to.is_left (line to.name to.trouble)

-- what came of an order, as the program tells it: the status, and on the error stream a note, or the refusal in a line
module _ (Answers : List ℕ → Result Made Error → Type 0) (w : Work) (Says : List ℕ → Error → List ℕ → Type 0) (from to : Device) (errors : Stream)
    (status : ℕ) where
  -- the status is 1, and a line says this text of this name
  abbrev pub TellsLine : List ℕ → List ℕ → Type 0
  TellsLine name text = (status ≡ 1) × Tells errors (line name text)

  -- bytes that aren't accepted are a refusal
  abbrev pub TellsMade : (is_refused : Bool) → (note : List ℕ) → Type 0
  TellsMade true note = (status ≡ 1) × Tells errors (unaccepted_text w from.name note)
  TellsMade false note = (status ≡ 0) × Tells errors note

  -- a line says why the bytes are refused, which are all of the source
  abbrev pub TellsReason : Error → Type 0
  TellsReason e = (bytes : List ℕ) × ReadsAndMakes Answers from.stream.old from.stream.new to.stream.old to.stream.new bytes (Err e)
      × ((text : List ℕ) × Says bytes e text × TellsLine from.name text)

  -- a line says that; or what the error says, where there is no more to say, or memory ran out while that was looked for
  abbrev pub TellsRefusal : Error → Type 0
  TellsRefusal e = TellsReason e ⊎ TellsLine from.name (refusal_text w e)

  -- what comes of each answer
  abbrev pub TellsResult : Result Made ToolError → Type 0
  TellsResult (Ok made) = TellsMade made.is_refused made.note.items
  TellsResult (Err Read) = TellsLine from.name from.trouble
  TellsResult (Err Write) = (status ≡ 1) × TellsUnwritten to errors
  TellsResult (Err (Module e)) = TellsRefusal e

-- The order was carried out or refused; its two devices counted the failure of which it answers and no other; what was written whole is flushed, also
-- where it says that a module isn't accepted; and its answer was told.
pub record RunsAndTells (Answers : List ℕ → Result Made Error → Type 0) (w : Work) (Says : List ℕ → Error → List ℕ → Type 0) (from to : Device)
    (errors : Stream) (status : ℕ) (is_flushed : Bool) : Type 0 where
  pub answer : Result Made ToolError
  pub ran : Carries Answers from.stream.old from.stream.new to.stream.old to.stream.new answer
  pub reads : CountsReads from.stream.failures_old from.stream.failures_new answer
  pub writes : CountsWrites to.stream.failures_old to.stream.failures_new answer
  pub flushed : OnOk answer (is_flushed ≡ true)
  pub told : TellsResult Answers w Says from to errors status answer

-- a text was written and the status is 0; or the sink failed, and a beginning of the text was written
pub data Prints (text : List ℕ) (to : Device) (errors : Stream) (status : ℕ) : Type 0 where
  said : status ≡ 0 → Appends to.stream.old to.stream.new text → IsUntouched errors → Prints text to errors status
  failed : status ≡ 1 → WroteFront to.stream.old to.stream.new text → TellsUnwritten to errors → Prints text to errors status
