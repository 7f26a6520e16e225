-- What comes of a module of which only bodies and the names of custom sections are known to be fine: it is checked, collected where that is asked
-- for, and written.
use Rattle.std.specs.Prelude.{ℕ, Bool, true, false, List, Contains, Result, Ok, Err, ◌≡◌}
use Rattle.std.specs.Global.{Vec}
use Rattle.walrus.specs.Model.Abstract.{Abstract, Custom}
use Rattle.walrus.specs.Model.Config.{Config}
use Rattle.walrus.specs.Model.Pipeline.{Collected}
use Rattle.walrus.specs.Items.CustomSection.{Ghosts}
use Rattle.walrus.specs.Items.Error.{Error}
use Rattle.walrus.specs.Items.Error.TheVariants.{DeadItem, TooLarge}
use Rattle.walrus.specs.Theorem.Chain.{Leaves}
use Rattle.walrus.specs.Theorem.Refused.{PassesLimits}
use Rattle.walrus.specs.Theorem.Sound.{IsFreeName}
use Rattle.walrus.specs.Theorem.WellMade.{IsWellMade}
use Rattle.walrus.specs.Modules.Answered.{IsWellWritten}
use Rattle.walrus.specs.Modules.Asked.{OneMayRefuse}
use Rattle.walrus_edit_list.specs.Check.{BodiesAreFormed, IsFlaw, PassesCheck}
use Rattle.walrus.specs.Modules.Flags.{config_of}
use Rattle.walrus.specs.Modules.Settings.{settings}
use Rattle.walrus.specs.Modules.View.{held_view, meanings, view}
use Rattle.walrus.specs.Modules.SectionEntry.{SectionEntry}
use Rattle.walrus_edit_list.specs.Flaw.{Flaw}
use Rattle.walrus_edit_list.specs.Flaw.TheVariants.{Form}
use Rattle.walrus.specs.Modules.Module.{Module}
use Rattle.walrus.specs.Marked.{ReachesUnsound}

-- gc left of v what is kept, where it is asked for; else w is v
abbrev pub MayCollect : (collects : Bool) → (v w : Abstract) → Type 0
MayCollect true v w = Collected v w
MayCollect false v w = w ≡ v

-- that was left of v, and emission leaves u of it
pub record EndsAs (collects : Bool) (v u : Abstract) : Type 0 where
  pub module_kept : Abstract
  pub collected : MayCollect collects v module_kept
  pub left : Leaves module_kept u

-- v is well made, and what is left of it is written: the output is the one spelling of one module of indices, reads as it, and it keeps the rules
pub record IsEnded (collects : Bool) (c : Config) (v : Abstract) (output : List ℕ) : Type 0 where
  pub made : IsWellMade c v
  pub module_left : Abstract
  pub ends : EndsAs collects v module_left
  pub written : IsWellWritten c module_left output

-- v is well made, and what is left of it has a count, a size or a limit past 32 bits
pub record IsLargeEnded (collects : Bool) (c : Config) (v : Abstract) : Type 0 where
  pub made : IsWellMade c v
  pub module_left : Abstract
  pub ends : EndsAs collects v module_left
  pub too_large : PassesLimits c module_left

-- Why not: what a check tells of the module without its custom sections; or the module is well made, but a root leads to what isn't there, as a segment
-- that its table still counts does; or what is left is too large.
pub data RefusesEnd (collects : Bool) (c : Config) (held v : Abstract) (f : Flaw) : Type 0 where
  Unchecked : IsFlaw held f → RefusesEnd collects c held v f
  Unsound : f ≡ Form DeadItem → collects ≡ true → IsWellMade c v → ReachesUnsound v → RefusesEnd collects c held v f
  Large : f ≡ Form TooLarge → IsLargeEnded collects c v → RefusesEnd collects c held v f

abbrev pub Ends : (collects : Bool) → Config → (held v : Abstract) → Result (Vec ℕ) Flaw → Type 0
Ends collects c held v (Ok output) = IsEnded collects c v output.items
Ends collects c held v (Err f) = RefusesEnd collects c held v f

-- an error, told as what is wrong beside the rules
abbrev pub told_as_flaw : {X : Type 0} → Result X Error → Result X Flaw
told_as_flaw (Ok x) = Ok x
told_as_flaw (Err e) = Err (Form e)

module _ {V : Type 0} {O : V → Type 0} (G : (v : V) → Ghosts (O v)) where
  -- all that a check doesn't look at: bodies are well formed, custom sections have free names and refuse nothing, and none is told where the code went
  pub record IsFormed (m : Module (SectionEntry V O)) : Type 0 where
    pub formed : BodiesAreFormed (config_of (settings m)) (view G m)
    pub free : (s : Custom) → Contains (view G m).customs s → IsFreeName s.name
    pub quiet : OneMayRefuse (meanings G m) → ⊥
    pub still : (settings m).preserve_code_transform ≡ false

  -- so it ends where it passed the check
  abbrev pub EndsChecked : Module (SectionEntry V O) → (collects : Bool) → Result (Vec ℕ) Error → Type 0
  EndsChecked m collects result = IsFormed m → PassesCheck (held_view m) → Ends collects (config_of (settings m)) (held_view m) (view G m) (told_as_flaw result)

  -- so it ends
  abbrev pub EndsFormed : Module (SectionEntry V O) → (collects : Bool) → Result (Vec ℕ) Flaw → Type 0
  EndsFormed m collects result = IsFormed m → Ends collects (config_of (settings m)) (held_view m) (view G m) result
