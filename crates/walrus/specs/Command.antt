-- The words of the program.
use Rattle.std.specs.Prelude.{Bool, true, false, ℕ, List, codes, not, ◌||◌, bytes_eq, string_bytes, String, Result, Ok, Err, ◌≡◌}
use Rattle.std.specs.List.{list_any, list_all}
use Rattle.std.specs.declared.alloc.Global.{Global}
use Rattle.walrus_model.specs.Config.{Config}
use Rattle.walrus_module.specs.Flags.{Flags, config_of, defaults}
use Rattle.walrus.specs.Message.{IsUntouched, Stream, Tells, line}
use Rattle.walrus.specs.Reported.{ReportsOrRuns}
use Rattle.walrus.specs.Text.{tool_text}
use Rattle.walrus.specs.Tool.{CountsReads, CountsWrites}
use Rattle.walrus.specs.declared.tool.ToolError.{ToolError}

-- the program knows this word
abbrev pub is_known : List ℕ → Bool
is_known word =
    bytes_eq word (codes "--no-names") || (bytes_eq word (codes "--no-producers") || (bytes_eq word (codes "--no-legacy") || bytes_eq word (codes "--report")))

-- the program knows each of these words
abbrev pub are_known : List (String Global) → Bool
are_known words = list_all (λ w. is_known (string_bytes w)) words

-- this word stands among those
abbrev pub stands_in : List (String Global) → List ℕ → Bool
stands_in words word = list_any (λ w. bytes_eq (string_bytes w) word) words

-- the defaults, but for what the words turn off
abbrev pub flags_for : List (String Global) → Flags
flags_for words = record defaults {
  generate_name_section = not (stands_in words (codes "--no-names"));
  generate_producers_section = not (stands_in words (codes "--no-producers"));
  legacy_exceptions = not (stands_in words (codes "--no-legacy"));
}

-- a report is to be written in place of the smaller module
abbrev pub asks_for_report : List (String Global) → Bool
asks_for_report words = stands_in words (codes "--report")

-- what a run or a report answered, as the program tells it: status 0, and nothing is said; or status 1, and the refusal in a line
abbrev pub IsTold : Result Unit ToolError → (status : ℕ) → (errors : Stream) → Type 0
IsTold (Ok u) status errors = (status ≡ 0) × IsUntouched errors
IsTold (Err e) status errors = (status ≡ 1) × Tells errors (line (tool_text e))

-- there was a report, where one is asked for, and else a run; its two devices counted the failure of which it answers and no other, and its
-- answer was told
pub record RunsAndTells (is_report : Bool) (c : Config) (from to errors : Stream) (status : ℕ) : Type 0 where
  pub answer : Result Unit ToolError
  pub ran : ReportsOrRuns is_report c from.old from.new to.old to.new answer
  pub reads : CountsReads from.failures_old from.failures_new answer
  pub writes : CountsWrites to.failures_old to.failures_new answer
  pub told : IsTold answer status errors

-- what the program does with its words and its three streams
pub record RunsProgram (words : List (String Global)) (from to errors : Stream) (status : ℕ) (is_flushed : Bool) : Type 0 where
  -- a word isn't known: nothing is read or written, and that is told in a line
  pub unknown : are_known words ≡ false → (status ≡ 2) × IsUntouched from × IsUntouched to × Tells errors (line (codes "unknown word"))
  -- else it runs as the words ask
  pub known : are_known words ≡ true → RunsAndTells (asks_for_report words) (config_of (flags_for words)) from to errors status
  -- status 0 says that all that was written was passed on
  pub flushed : status ≡ 0 → is_flushed ≡ true
