-- The steps to why an item stays: which functions go with it.
use Rattle.std.specs.Prelude.{◌≡◌, ◌⊎◌, ℕ, false, Option, Some, None, Result, Ok, Err}
use Rattle.walrus.specs.Base.Arena.{item_at}
use Rattle.walrus.specs.Base.IdSet.{has_id}
use Rattle.walrus.specs.Base.Operators.{Item, function_item}
use Rattle.walrus.specs.Base.FunctionKey.{FunctionKey}
use Rattle.walrus.specs.Base.MarksValue.{Marks}
use Rattle.walrus.specs.Items.Errors.{out_of_memory}
use Rattle.walrus.specs.Items.Functions.{functions}
use Rattle.walrus.specs.Items.LocalFunction.{LocalFunction}
use Rattle.walrus.specs.Items.CustomSection.{Ghosts}
use Rattle.walrus.specs.Items.Error.{Error}
use Rattle.walrus.specs.Modules.Asked.{OneMayRefuse}
use Rattle.walrus.specs.Modules.View.{meanings, view}
use Rattle.walrus.specs.Modules.SectionEntry.{SectionEntry}
use Rattle.walrus.specs.Modules.Module.{Module}
use Rattle.walrus.specs.Marked.{ReachesUnsound}
use Rattle.walrus.specs.Used.{FindsUsed, RefusesSearch}
use Rattle.walrus.specs.declared.passes.used.Used.{Used}
use Rattle.walrus_tools.specs.AloneSteps.{HasBodyAgain, HoldsSame, MarksGoers, Trades}
use Rattle.walrus_tools.specs.FunctionMeaning.{has_body}

module _ {V : Type 0} {O : V → Type 0} (G : (v : V) → Ghosts (O v)) where
  -- the function at place f trapped, and has its body again; marked are those that go with it
  pub record FindsGoers (f : ℕ) (old new : Module (SectionEntry V O)) (marks : Marks FunctionKey) : Type 0 where
    pub body : LocalFunction
    pub trapped : Module (SectionEntry V O)
    pub trades : Trades f body old trapped
    pub used : Used
    pub finds : FindsUsed G trapped used
    pub goers : MarksGoers (functions trapped.funcs) (has_id used.funcs) f marks
    pub back : HasBodyAgain f body trapped new

  -- the item is no function with a body that is there
  abbrev pub HasNoBodyAt : Item → Module (SectionEntry V O) → Type 0
  HasNoBodyAt x m = (f : ℕ) → x ≡ function_item f → has_body (item_at (functions m.funcs) f) ≡ false

  -- memory ran out, or the search for what is used refused where the function trapped
  abbrev pub RefusesGoers : Item → (old : Module (SectionEntry V O)) → Error → Type 0
  RefusesGoers x old e =
      (e ≡ out_of_memory)
      ⊎ ((f : ℕ) × (body : LocalFunction) × (trapped : Module (SectionEntry V O)) × Trades f body old trapped × RefusesSearch (ReachesUnsound (view G trapped)) (OneMayRefuse (meanings G trapped)) e)

  -- marks of what goes with the item, or that it is no function with a body that is there
  abbrev pub TellsGoers : Item → (old new : Module (SectionEntry V O)) → Result (Option (Marks FunctionKey)) Error → Type 0
  TellsGoers x old new (Ok None) = HoldsSame old new × HasNoBodyAt x old
  TellsGoers x old new (Ok (Some marks)) = (f : ℕ) × (x ≡ function_item f) × FindsGoers f old new marks
  TellsGoers x old new (Err e) = RefusesGoers x old e
