-- What each subcommand makes of the bytes of a module. Left open is what check and sections write for programs, under `--json`.
use Rattle.std.specs.Prelude.{ℕ, Bool, true, false, not, List, [], ◌++◌, Option, Some, None, Result, Ok, Err, String, codes, flat_map, is_some, string_bytes, ◌≡◌, ⊤}
use Rattle.std.specs.Global.{Vec}
use Rattle.std.specs.declared.alloc.Global.{Global}
use Rattle.walrus_tools.specs.ChosenModule.{AnswersChosen, KeepsChosen, RefusesChosen}
use Rattle.walrus_tools.specs.DroppedList.{AnswersDropped}
use Rattle.walrus_tools.specs.ExportList.{AnswersExports}
use Rattle.walrus_tools.specs.Faults.{Finds, WordsFault}
use Rattle.walrus_tools.specs.Facade.{Config, Error, Fault, InvalidWasm, Memory}
use Rattle.walrus_tools.specs.FunctionList.{AnswersListed}
use Rattle.walrus_tools.specs.ImportList.{AnswersImports}
use Rattle.walrus_sections.specs.PartList.{HasParts, IsNone, Part}
use Rattle.walrus_tools.specs.ReasonAnswers.{AnswersCallers, AnswersWhy}
use Rattle.walrus_sections.specs.Sections.{LacksHeader, Piece, StandUpTo}
use Rattle.walrus_sections.specs.StripAnswers.{AnswersStripped}
use Rattle.walrus_tools.specs.StubMatching.{AnswersMatching, RefusesMatching, StubsMatching}
use Rattle.walrus_tools.specs.TrapEdit.{AnswersMeant, RefusesMeant, SnipsMeant}
use Rattle.walrus_tools.specs.Wanted.{config_wanted}
use Rattle.walrus_tools.specs.Weigh.{AnswersReport, AnswersWeighed}
use Rattle.walrus_tools.specs.declared.weigh.Smaller.{Smaller}
use Rattle.mulkavesh.specs.declared.subcommands.Made.{Made}
use Rattle.mulkavesh.specs.declared.order.Order.{Order}
use Rattle.mulkavesh.specs.declared.order.Work.{Work}
use Rattle.mulkavesh.specs.declared.order.Work.TheVariants as work
use Rattle.mulkavesh.specs.Cause.{WordsRefusal, refused_text}
use Rattle.mulkavesh.specs.Choices.{functions_of, imports_of, modules_of, roots_of, sections_of}
use Rattle.mulkavesh.specs.Entries.{TellsListed, first_of}
use Rattle.mulkavesh.specs.Interface.{exports_text, imports_text}
use Rattle.mulkavesh.specs.Links.{links_text}
use Rattle.mulkavesh.specs.Notes.{note_text}
use Rattle.mulkavesh.specs.Reasons.{reason_told}
use Rattle.mulkavesh.specs.Reports.{weighed_told}
use Rattle.mulkavesh.specs.Sections.{part_line, section_line, stop_text}

-- what a call of the library answers: bytes, or why not
abbrev pub Answer : Type 0
Answer = Result (Vec ℕ) Error

-- for people this is so; for programs it is left open
abbrev pub ForPeople : (is_json : Bool) → Type 0 → Type 0
ForPeople true P = ⊤
ForPeople false P = P

-- ---- what is written

-- nothing is said on standard error behind what is written
abbrev pub NotesNothing : Made → Type 0
NotesNothing m = m.note.items ≡ []

-- the answer of a call that answers so, and nothing is noted
abbrev pub WritesAlone : (Answers : Answer → Type 0) → Result Made Error → Type 0
WritesAlone Answers (Ok m) = Answers (Ok m.output) × (m.is_refused ≡ false) × NotesNothing m
WritesAlone Answers (Err e) = Answers (Err e)

-- the output of an answer, and noted is what the answer tells
pub record Notes (s : Smaller) (m : Made) : Type 0 where
  pub output : m.output ≡ s.output
  pub note : m.note.items ≡ note_text s.told
  pub accepted : m.is_refused ≡ false

-- that of a call that answers so
abbrev pub WritesNoted : (Answers : Result Smaller Error → Type 0) → Result Made Error → Type 0
WritesNoted Answers (Ok m) = (s : Smaller) × Answers (Ok s) × Notes s m
WritesNoted Answers (Err e) = Answers (Err e)

-- the first where the order is to be quiet, and else the second
abbrev pub WritesSmaller : (is_quiet : Bool) → (Alone : Answer → Type 0) → (Noted : Result Smaller Error → Type 0) → Result Made Error → Type 0
WritesSmaller true Alone Noted = WritesAlone Alone
WritesSmaller false Alone Noted = WritesNoted Noted

-- ---- texts

-- a text of what a call answers, or the call's refusal
abbrev pub TellsOf : {X : Type 0} → (Tells : X → (text : List ℕ) → Type 0) → (Answers : Result X Error → Type 0) → Answer → Type 0
TellsOf {X = X} Tells Answers (Ok text) = (answer : X) × Answers (Ok answer) × Tells answer text.items
TellsOf Tells Answers (Err e) = Answers (Err e)

-- this text
abbrev pub Told : {X : Type 0} → (text_of : X → List ℕ) → (Answers : Result X Error → Type 0) → Answer → Type 0
Told text_of Answers = TellsOf (λ x text. text ≡ text_of x) Answers

-- the text of so many items of a list, or of all
abbrev pub ToldFirst : {A : Type 0} → (count : Option ℕ) → (text_of : List A → List ℕ) → (Answers : Result (Vec A) Error → Type 0) → Answer → Type 0
ToldFirst count text_of Answers = Told (λ v. text_of (first_of count v.items)) Answers

-- ---- check

-- the line of what was found in the bytes
abbrev pub TellsVerdict : (bytes : List ℕ) → Option Fault → (text : List ℕ) → Type 0
TellsVerdict bytes None text = text ≡ codes "accepted\n"
TellsVerdict bytes (Some fault) text = (words : List ℕ) × WordsFault bytes fault words × (text ≡ words ++ codes "\n")

-- what is noted of something that is wrong with the bytes: that they are invalid; for programs, as in other subcommands, also what is wrong with them
abbrev pub NotesFault : (is_json : Bool) → (bytes : List ℕ) → Option Fault → (note : List ℕ) → Type 0
NotesFault is_json bytes None note = note ≡ []
NotesFault true bytes (Some fault) note = WordsRefusal bytes fault note
NotesFault false bytes (Some fault) note = note ≡ refused_text

-- nothing was found exactly where the bytes are accepted, and otherwise something that is wrong with them; the module is refused where something was
-- found, and the text and the note say what
pub record IsVerdict (c : Config) (bytes : List ℕ) (is_json : Bool) (m : Made) : Type 0 where
  pub found : Option Fault
  pub finds : Finds c bytes found
  pub refused : m.is_refused ≡ is_some found
  pub says : ForPeople is_json (TellsVerdict bytes found m.output.items)
  pub notes : NotesFault is_json bytes found m.note.items

-- the verdict, on standard output and in a note; or memory ran out
abbrev pub Checks : Config → (bytes : List ℕ) → (is_json : Bool) → Result Made Error → Type 0
Checks c bytes is_json (Ok m) = IsVerdict c bytes is_json m
Checks c bytes is_json (Err (Memory e)) = ⊤
Checks c bytes is_json (Err _) = ⊥

-- ---- sections

-- a line for each section that stands there; where bytes are left behind them, that is a refusal, which says where
pub record SaysSections (bytes : List ℕ) (is_json : Bool) (m : Made) : Type 0 where
  pub is_whole : Bool
  pub place : ℕ
  pub pieces : List Piece
  pub stand : StandUpTo bytes is_whole place pieces
  pub lines : ForPeople is_json (m.output.items ≡ flat_map section_line pieces)
  pub note : m.note.items ≡ stop_text is_whole place
  pub refused : m.is_refused ≡ not is_whole

-- that, or the header isn't there, or memory ran out
abbrev pub TellsSections : (bytes : List ℕ) → (is_json : Bool) → Result Made Error → Type 0
TellsSections bytes is_json (Ok m) = SaysSections bytes is_json m
TellsSections bytes is_json (Err (InvalidWasm kind)) = LacksHeader bytes
TellsSections bytes is_json (Err (Memory e)) = ⊤
TellsSections bytes is_json (Err _) = ⊥

-- a line for each part of the module that the bytes are, and nothing is noted
pub record SaysParts (bytes : List ℕ) (is_json : Bool) (m : Made) : Type 0 where
  pub parts : List Part
  pub has : HasParts bytes parts
  pub lines : ForPeople is_json (m.output.items ≡ flat_map part_line parts)
  pub alone : NotesNothing m
  pub accepted : m.is_refused ≡ false

-- that, or the bytes are no module, or memory ran out
abbrev pub TellsParts : (bytes : List ℕ) → (is_json : Bool) → Result Made Error → Type 0
TellsParts bytes is_json (Ok m) = SaysParts bytes is_json m
TellsParts bytes is_json (Err (InvalidWasm kind)) = IsNone bytes
TellsParts bytes is_json (Err (Memory e)) = ⊤
TellsParts bytes is_json (Err _) = ⊥

-- sections as they stand, or all that a module has
abbrev pub TellsAll : (bytes : List ℕ) → (is_all is_json : Bool) → Result Made Error → Type 0
TellsAll bytes false is_json = TellsSections bytes is_json
TellsAll bytes true is_json = TellsParts bytes is_json

-- ---- each subcommand

-- what a subcommand is about; where it is about nothing, no bytes
abbrev pub operand_bytes : Option (String Global) → List ℕ
operand_bytes None = []
operand_bytes (Some word) = string_bytes word

-- the module of the exports that stay roots, without what nothing reaches; and what was dropped
abbrev pub AnswersGc : Order → Config → (bytes : List ℕ) → Result Made Error → Type 0
AnswersGc o c bytes = WritesSmaller o.is_quiet (AnswersChosen c bytes (roots_of o)) (AnswersWeighed (KeepsChosen (roots_of o)) (RefusesChosen (roots_of o)) c bytes)

-- the module in which functions trap that the order means, likewise
abbrev pub AnswersSnip : Order → Config → (bytes : List ℕ) → Result Made Error → Type 0
AnswersSnip o c bytes =
    WritesSmaller o.is_quiet (AnswersMeant c bytes (functions_of o)) (AnswersWeighed (SnipsMeant (functions_of o)) (RefusesMeant (functions_of o)) c bytes)

-- and that in which functions trap that were imported as the order says
abbrev pub AnswersStub : Order → Config → (bytes : List ℕ) → Result Made Error → Type 0
AnswersStub o c bytes =
    WritesSmaller o.is_quiet (AnswersMatching c bytes (modules_of o) (imports_of o))
    (AnswersWeighed (StubsMatching (modules_of o) (imports_of o)) (RefusesMatching (modules_of o) (imports_of o)) c bytes)

-- the report on it
abbrev pub Reports : Order → Config → (bytes : List ℕ) → Answer → Type 0
Reports o c bytes = Told (weighed_told o.is_json) (AnswersReport c bytes (roots_of o))

-- the functions that are dropped, or those that stay
abbrev pub ListsFunctions : (is_dropped : Bool) → Order → Config → (bytes : List ℕ) → Answer → Type 0
ListsFunctions true o c bytes = TellsOf (λ v. TellsListed o.is_json o.listing.by_size o.listing.count v.items) (AnswersDropped c bytes (roots_of o))
ListsFunctions false o c bytes = TellsOf (λ v. TellsListed o.is_json o.listing.by_size o.listing.count v.items) (AnswersListed c bytes (roots_of o))

-- the exports that stay, the imports that do, or functions
abbrev pub Lists : (exports imports : Bool) → Order → Config → (bytes : List ℕ) → Answer → Type 0
Lists true imports o c bytes = ToldFirst o.listing.count (exports_text o.is_json) (AnswersExports c bytes (roots_of o))
Lists false true o c bytes = ToldFirst o.listing.count (imports_text o.is_json) (AnswersImports c bytes (roots_of o))
Lists false false o c bytes = ListsFunctions o.listing.dropped o c bytes

-- what refers to the item that is meant, or why that stays
abbrev pub TellsWhy : (callers : Bool) → Order → Config → (bytes : List ℕ) → Answer → Type 0
TellsWhy true o c bytes = Told (λ v. links_text o.is_json v.items) (AnswersCallers c bytes (roots_of o) (operand_bytes o.operand))
TellsWhy false o c bytes = Told (reason_told o.is_json) (AnswersWhy c bytes (roots_of o) (operand_bytes o.operand))

abbrev pub AnswersWork : Work → Order → (bytes : List ℕ) → Result Made Error → Type 0
AnswersWork work.Gc o bytes = AnswersGc o (config_wanted o.wanted) bytes
AnswersWork work.Report o bytes = WritesAlone (Reports o (config_wanted o.wanted) bytes)
AnswersWork work.List o bytes = WritesAlone (Lists o.listing.exports o.listing.imports o (config_wanted o.wanted) bytes)
AnswersWork work.Check o bytes = Checks (config_wanted o.wanted) bytes o.is_json
AnswersWork work.Sections o bytes = TellsAll bytes o.is_all o.is_json
AnswersWork work.Strip o bytes = WritesAlone (AnswersStripped bytes (sections_of o))
AnswersWork work.Snip o bytes = AnswersSnip o (config_wanted o.wanted) bytes
AnswersWork work.Stub o bytes = AnswersStub o (config_wanted o.wanted) bytes
AnswersWork work.Why o bytes = WritesAlone (TellsWhy o.listing.callers o (config_wanted o.wanted) bytes)

-- what an order makes of the bytes
abbrev pub AnswersOrder : Order → (bytes : List ℕ) → Result Made Error → Type 0
AnswersOrder o bytes = AnswersWork o.work o bytes
