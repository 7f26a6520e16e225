-- What a module is copied as.
use Rattle.std.specs.Prelude.{◌≡◌, ℕ, List, []}
use Rattle.wasm_frames.specs.Record.{Module}
use Rattle.wasm_frames.specs.Frames.{Frames}
use Rattle.wasm_wire.specs.Rules.{Rules}
use Rattle.wasm_wire.specs.ModuleSpelling.{module_bytes}
use Rattle.wasm_copy.specs.Listing.{AreListed, has_function}
use Rattle.wasm_copy.specs.declared.task.Task.{Task}
use Rattle.wasm_copy.specs.declared.task.Task.TheVariants as tasks

-- what is written for a module
abbrev pub IsOutput : Task → Module → List ℕ → Type 0
IsOutput tasks.Copy m output = output ≡ module_bytes m
IsOutput tasks.CopyAndCompare m output = output ≡ module_bytes m
IsOutput tasks.Read m output = output ≡ []
IsOutput tasks.Names m output = AreListed (has_function m) m.customs output

-- the bytes are a module that keeps the rules, and the output is what the task asks for it
pub record Copies (task : Task) (bytes output : List ℕ) : Type 0 where
  pub records : Module
  pub frames : Frames bytes records
  pub rules : Rules records
  pub written : IsOutput task records output
