-- A module with one custom section more ("Binary Format > Custom Section").
use Rattle.std.specs.Prelude.{List, [], ◌∷◌, ◌++◌, ℕ, true, false, Contains, Result, ◌≡◌}
use Rattle.std.specs.Global.{Vec}
use Rattle.walrus.specs.Model.Abstract.{Abstract, Custom}
use Rattle.walrus.specs.Model.Config.{Config}
use Rattle.walrus.specs.Model.Sections.{is_apart}
use Rattle.walrus.specs.Theorem.Chain.{Leaves}
use Rattle.walrus.specs.Items.Error.{Error}
use Rattle.walrus.specs.Modules.Parsed.{IsParsed}
use Rattle.walrus.specs.Ends.{Answers, IfCaller, LeavesLarge, LeavesWritten}

-- a section of this name, whose data is the same under all indices
abbrev pub section_of : (name payload : List ℕ) → Custom
section_of name payload = record { name = name; data_under = λ indices. payload }

-- the module with that section behind its others
abbrev pub with_section : (name payload : List ℕ) → Abstract → Abstract
with_section name payload v = record v { customs = v.customs ++ section_of name payload ∷ [] }

-- the bytes were parsed; emission leaves u of what was parsed, the section put behind: with the segment that it declares, if there is one
pub record GainsSection (c : Config) (bytes name payload : List ℕ) (u : Abstract) : Type 0 where
  pub module_parsed : Abstract
  pub parsed : IsParsed c bytes module_parsed
  pub left : Leaves (with_section name payload module_parsed) u

-- That is written: the output is the one spelling of one module of indices, reads as it, and it keeps the rules. The section stands in it.
pub record IsWithSection (c : Config) (bytes name payload output : List ℕ) : Type 0 where
  pub gains : LeavesWritten (GainsSection c bytes name payload) c output
  pub stands : Contains gains.written.module_written.customs (section_of name payload)
  pub free : is_apart name ≡ false

-- the section is there, or a refusal with its cause, as that sections of this name are the writer's own
abbrev pub CarriesMetadata : Config → (bytes name payload : List ℕ) → Result (Vec ℕ) Error → Type 0
CarriesMetadata c bytes name payload result =
    Answers c bytes (λ (output : Vec ℕ). IsWithSection c bytes name payload output.items) (LeavesLarge (GainsSection c bytes name payload) c) (IfCaller (is_apart name ≡ true)) result
