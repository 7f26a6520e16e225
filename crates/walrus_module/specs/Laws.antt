-- The laws of a module in memory: what a second emission answers, and what its bodies count.
use Rattle.std.specs.Prelude.{ℕ, [], false, Result, Ok, ◌≡◌}
use Rattle.std.specs.Global.{Vec}
use Rattle.walrus_items.specs.declared.custom.CustomSection.{Ghosts}
use Rattle.walrus_items.specs.declared.error.Error.{Error}
use Rattle.walrus_base.specs.Locals.{locals}
use Rattle.walrus_base.specs.declared.locals.ModuleLocals.{ModuleLocals}
use Rattle.walrus_items.specs.LocalFunction.{LocalFunction}
use Rattle.walrus_contents.specs.View.{body, contents_view}
use Rattle.walrus_contents.specs.declared.parts.Contents.{Contents}
use Rattle.walrus_theorem.specs.OkLaws.{AreCounted}
use Rattle.walrus_theorem.specs.Once.{TypesLocals}
use Rattle.walrus_theorem.specs.Pinned.{DeclaresLocal}
use Rattle.walrus_theorem.specs.Refused.{IsSayable}
use Rattle.walrus_theorem.specs.WellMade.{IsCounted}
use Rattle.walrus_writing.specs.Emitted.{told}
use Rattle.walrus_module.specs.Answered.{WritesUnless}
use Rattle.walrus_module.specs.Asked.{OneAskedMayRefuse}
use Rattle.walrus_module.specs.Emission.{EmitsBytes}
use Rattle.walrus_module.specs.Settings.{settings}
use Rattle.walrus_module.specs.View.{meanings, view}
use Rattle.walrus_module.specs.declared.entry.SectionEntry.{SectionEntry}
use Rattle.walrus_module.specs.declared.module.Module.{Module}

-- ---- bodies

-- in what a module holds, each body counts the locals that it declares, where each local that a body uses is there
abbrev pub HeldAreCounted : Type 0
HeldAreCounted = (m : Contents) → TypesLocals (contents_view m) → AreCounted (contents_view m)

-- without that not: a body that declares a local counts none where there are no locals
abbrev pub AbsentIsUncounted : Type 0
AbsentIsUncounted = (all : ModuleLocals) (f : LocalFunction) (x : ℕ) → locals all ≡ [] → DeclaresLocal (body all f) x → IsCounted (body all f) → ⊥

-- ---- emission, twice

module _ {V : Type 0} {O : V → Type 0} (G : (v : V) → Ghosts (O v)) where
  -- What was written once is left as it is by a second emission, and written as the same bytes, unless memory runs out or a custom section that
  -- is asked refuses. No custom section of its own is called as the name or the producers section is, and none is handed a transform, since it isn't kept.
  abbrev pub EmitsAgain : Type 0
  EmitsAgain =
      (old middle new : Module (SectionEntry V O)) (first : Vec ℕ) (second : Result (Vec ℕ) Error) → (settings old).preserve_code_transform ≡ false → IsSayable (view G old)
      → EmitsBytes G old middle (Ok first) → EmitsBytes G middle new second
      → (new ≡ middle) × WritesUnless ⊥ (OneAskedMayRefuse (meanings G middle)) (λ bytes. bytes.items ≡ first.items) (told second)

  -- where one is called so, the clauses that hold of the bytes hold of any others: they tell nothing of them
  abbrev pub UnsayableIsOpen : Type 0
  UnsayableIsOpen = (old new : Module (SectionEntry V O)) (first other : Vec ℕ) → (settings old).preserve_code_transform ≡ false → (IsSayable (view G old) → ⊥) → EmitsBytes G old new (Ok first) → EmitsBytes G old new (Ok other)
