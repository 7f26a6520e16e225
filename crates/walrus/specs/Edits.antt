-- What comes of bytes that are parsed, edited, rid of what nothing reaches, and written.
use Rattle.std.specs.Prelude.{ℕ, List, Result, ◌≡◌}
use Rattle.std.specs.Global.{Vec}
use Rattle.walrus_model.specs.Abstract.{Abstract, Custom}
use Rattle.walrus_model.specs.Config.{Config}
use Rattle.walrus_model.specs.Pipeline.{ReachedIsLive}
use Rattle.walrus_items.specs.Errors.{out_of_memory}
use Rattle.walrus_items.specs.declared.error.Error.{Error}
use Rattle.walrus_contents.specs.View.{contents_view}
use Rattle.walrus_contents.specs.declared.parts.Contents.{Contents}
use Rattle.walrus_theorem.specs.WellMade.{IsWellMade}
use Rattle.walrus_module.specs.Parsed.{IsParsed}
use Rattle.walrus_module.specs.View.{held_view}
use Rattle.walrus_module.specs.declared.module.Module.{Module}
use Rattle.walrus.specs.Ends.{Answers, LeavesLarge, LeavesWritten, LeftOf}

-- the module is well made, and what is reached is there
pub record IsWhole {S : Type 0} (c : Config) (m : Module S) : Type 0 where
  pub made : IsWellMade c (held_view m)
  pub reached : ReachedIsLive (held_view m)

-- what is held, with these custom sections, which ask to keep nothing
abbrev pub with_customs : List Custom → Contents → Abstract
with_customs customs m = record (contents_view m) { customs = customs }

-- The bytes were parsed, what was parsed was edited so, gc left of that what is kept, and emission leaves u of that.
pub record EditsTo (Edits : Contents → Contents → Type 0) (c : Config) (bytes : List ℕ) (u : Abstract) : Type 0 where
  pub customs : List Custom
  pub module_parsed : Contents
  pub parsed : IsParsed c bytes (with_customs customs module_parsed)
  pub module_edited : Contents
  pub edits : Edits module_parsed module_edited
  pub made : IsWellMade c (with_customs customs module_edited)
  pub left : LeftOf (with_customs customs module_edited) u

-- the bytes were parsed, and what was parsed is why the edit is refused
pub record RefusesEdit (Refuses : Contents → Error → Type 0) (c : Config) (bytes : List ℕ) (e : Error) : Type 0 where
  pub customs : List Custom
  pub module_parsed : Contents
  pub parsed : IsParsed c bytes (with_customs customs module_parsed)
  pub refuses : Refuses module_parsed e

-- an edit that refuses for want of memory alone
abbrev pub ForMemory : Contents → Error → Type 0
ForMemory m e = e ≡ out_of_memory

-- the edited module, written, or a refusal with its cause
abbrev pub AnswersEdited : (Edits : Contents → Contents → Type 0) → (Refuses : Contents → Error → Type 0) → Config → (bytes : List ℕ) → Result (Vec ℕ) Error → Type 0
AnswersEdited Edits Refuses c bytes result =
    Answers c bytes (λ (output : Vec ℕ). LeavesWritten (EditsTo Edits c bytes) c output.items) (LeavesLarge (EditsTo Edits c bytes) c) (RefusesEdit Refuses c bytes) result
