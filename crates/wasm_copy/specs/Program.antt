-- What the program does with its streams.
use Rattle.std.specs.Prelude.{◌≡◌, ℕ, List, Option}
use Rattle.std.specs.Io.KnownBytes.{Appends, Consumes, IsAtEnd}
use Rattle.wasm_copy.specs.Copy.{Copies}
use Rattle.wasm_copy.specs.declared.failure.Failure.{Failure}
use Rattle.wasm_copy.specs.declared.failure.Failure.TheVariants.{Output}
use Rattle.wasm_copy.specs.declared.task.Task.{Task}

-- all of the input is read, and what the task asks for is written; of streams whose bytes aren't known this says nothing
pub record Does (task : Task) (from_old from_new to_old to_new : Option (List ℕ)) : Type 0 where
  pub bytes : List ℕ
  pub output : List ℕ
  pub consumed : Consumes from_old from_new bytes
  pub ended : IsAtEnd from_new
  pub copied : Copies task bytes output
  pub appended : Appends to_old to_new output

-- before it is written to, the output is as it was
abbrev pub IsUnwritten : Option (List ℕ) → Option (List ℕ) → Failure → Type 0
IsUnwritten to_old to_new (Output e) = Unit {0}
IsUnwritten to_old to_new _ = to_new ≡ to_old
