-- What counting comes to: of a module in memory, and from bytes to bytes.
use Rattle.std.specs.Prelude.{ℕ, List, Result, MatchResult, ◌≡◌}
use Rattle.std.specs.Global.{Vec}
use Rattle.std.specs.List.{AllZip}
use Rattle.walrus.specs.Base.Id.{place}
use Rattle.walrus.specs.Base.IdValue.{Id}
use Rattle.walrus.specs.Base.FunctionKey.{FunctionKey}
use Rattle.walrus.specs.Model.Config.{Config}
use Rattle.walrus.specs.Items.Errors.{out_of_memory}
use Rattle.walrus.specs.Items.Error.{Error}
use Rattle.walrus.specs.Items.Functions.{functions}
use Rattle.walrus.specs.Items.Imports.{imports}
use Rattle.walrus.specs.Contents.Contents.{Contents}
use Rattle.walrus.specs.Modules.Module.{Module}
use Rattle.walrus_examples.specs.Count.{CountsIn, ImportsIn, SlotCalls}
use Rattle.walrus.specs.Edits.{AnswersEdited, ForMemory}

-- ---- what a module holds

module _ {S : Type 0} where
  -- a function is imported, and nothing else changed
  pub record ImportsTo (from name : List ℕ) (old new : Module S) (called : Id FunctionKey) : Type 0 where
    pub items : ImportsIn from name old.types new.types (functions old.funcs) (functions new.funcs) (imports old.imports) (imports new.imports) called
    pub others : new ≡ record old { types = new.types; funcs = new.funcs; imports = new.imports }

  -- the same as what a call answers; `Memory` is the only refusal
  abbrev pub ImportsOne : (from name : List ℕ) → (old new : Module S) → Result (Id FunctionKey) Error → Type 0
  ImportsOne from name old new result = MatchResult result (λ called. ImportsTo from name old new called) (λ e. e ≡ out_of_memory)

  -- a function is imported, then each with a body begins with a call of it, and nothing else changed
  pub record Counts (from name : List ℕ) (old new : Module S) : Type 0 where
    pub called : Id FunctionKey
    pub middle : Module S
    pub imported : ImportsTo from name old middle called
    pub calls : AllZip (SlotCalls (place called)) (functions middle.funcs) (functions new.funcs)
    pub others : new ≡ record middle { funcs = new.funcs }

  -- the same as what a call answers; `Memory` is the only refusal
  abbrev pub CountsAll : (from name : List ℕ) → (old new : Module S) → Result (Unit {0}) Error → Type 0
  CountsAll from name old new result = MatchResult result (λ done. Counts from name old new) (λ e. e ≡ out_of_memory)

-- of what is held a function was imported, each with a body begins with a call of it, and nothing else changed
pub record CountsHeld (from name : List ℕ) (old new : Contents) : Type 0 where
  pub items : CountsIn from name old.types new.types old.funcs new.funcs old.imports new.imports
  pub others : new ≡ record old { types = new.types; funcs = new.funcs; imports = new.imports }

-- ---- from bytes to bytes

-- the module that counts, or a refusal with its cause
abbrev pub AnswersCounted : Config → (bytes from name : List ℕ) → Result (Vec ℕ) Error → Type 0
AnswersCounted c bytes from name result = AnswersEdited (CountsHeld from name) ForMemory c bytes result
