-- A module in memory that is ready to be collected and written, and what comes of it.
use Rattle.std.specs.Prelude.{ℕ, Result, false, ◌≡◌}
use Rattle.std.specs.Global.{Vec}
use Rattle.walrus_items.specs.declared.error.Error.{Error}
use Rattle.walrus_model.specs.Pipeline.{ReachedIsLive}
use Rattle.walrus_items.specs.declared.custom.CustomSection.{Ghosts}
use Rattle.walrus_theorem.specs.WellMade.{IsWellMade}
use Rattle.walrus_module.specs.Asked.{OneMayRefuse}
use Rattle.walrus_module.specs.Flags.{config_of}
use Rattle.walrus_module.specs.Settings.{settings}
use Rattle.walrus_module.specs.View.{meanings, view}
use Rattle.walrus_module.specs.declared.entry.SectionEntry.{SectionEntry}
use Rattle.walrus_module.specs.declared.module.Module.{Module}
use Rattle.walrus.specs.Ends.{Finishes, LeftOf}

module _ {V : Type 0} {O : V → Type 0} (G : (v : V) → Ghosts (O v)) where
  -- the module is well made, what is reached is there, no section may refuse, and none is told where the code went
  pub record IsReady (m : Module (SectionEntry V O)) : Type 0 where
    pub made : IsWellMade (config_of (settings m)) (view G m)
    pub reached : ReachedIsLive (view G m)
    pub quiet : OneMayRefuse (meanings G m) → ⊥
    pub still : (settings m).preserve_code_transform ≡ false

  -- of such a module what is kept is written
  abbrev pub FinishesReady : Module (SectionEntry V O) → Result (Vec ℕ) Error → Type 0
  FinishesReady m result = IsReady m → Finishes (LeftOf (view G m)) (config_of (settings m)) result
