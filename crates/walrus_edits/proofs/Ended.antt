-- A module that was checked, collected where that is asked for, and then written or refused: what that comes to.
use Rattle.std.proofs.Common.{◌≡◌, ℕ, Bool, true, false, refl, ap, subst}
use Rattle.std.specs.Prelude.{map, Result, Ok, Err}
use Rattle.std.specs.Global.{Vec}
use Rattle.walrus.specs.Base.Arena.{items}
use Rattle.walrus.specs.Model.Abstract.{Abstract}
use Rattle.walrus.specs.Model.Config.{Config}
use Rattle.walrus.specs.Model.Pipeline.{Collected}
use Rattle.walrus.specs.Theorem.Chain.{Leaves}
use Rattle.walrus.specs.Theorem.Refused.{PassesLimits}
use Rattle.walrus.specs.Theorem.WellMade.{IsWellMade}
use Rattle.walrus.proofs.Theorem.WellStays.{collected_well}
use Rattle.walrus.specs.Items.CustomSection.{Ghosts}
use Rattle.walrus.specs.Items.Error.{Error}
use Rattle.walrus.specs.Items.Error.TheVariants as error
use Rattle.walrus.specs.Modules.Answered.{IsWellWritten, WritesUnless}
use Rattle.walrus.specs.Modules.Asked.{OneAskedMayRefuse, OneMayRefuse}
use Rattle.walrus_edit_list.specs.Check.{PassesCheck}
use Rattle.walrus.specs.Modules.Customs.{sections}
use Rattle.walrus.specs.Modules.Emitted.{told}
use Rattle.walrus.specs.Modules.Flags.{Flags, config_of}
use Rattle.walrus.specs.Modules.Following.{OneMayRefuseThen}
use Rattle.walrus.specs.Modules.Left.{LeavesBy, but_customs}
use Rattle.walrus.specs.Modules.Meaning.{meaning}
use Rattle.walrus.specs.Modules.Settings.{settings}
use Rattle.walrus.specs.Modules.View.{held_view, meanings, view}
use Rattle.walrus.specs.Modules.ModuleCustomSections.{ModuleCustomSections}
use Rattle.walrus.specs.Modules.SectionEntry.{SectionEntry}
use Rattle.walrus.specs.Modules.Module.{Module}
use Rattle.walrus.specs.Marked.{ReachesSound, ReachesUnsound}
use Rattle.walrus.specs.Used.{RefusesSearch}
use Rattle.walrus_edit_list.proofs.CheckedWell.{checked_well}
use Rattle.walrus.proofs.Modules.RawStays.{leaves_whole, plain_well}
use Rattle.walrus_edits.specs.Ending.{Ends, EndsAs, IsFormed, Large, MayCollect, Unchecked, Unsound, told_as_flaw}

pub collects_so : (v w : Abstract) (b : Bool) → b ≡ true → Collected v w → MayCollect b v w
collects_so v w true is h = h
collects_so v w false is h = let no_such : false ≡ true = is in absurd cc

pub keeps_so : (v : Abstract) (b : Bool) → b ≡ false → MayCollect b v v
keeps_so v false is = refl
keeps_so v true is = let no_such : true ≡ false = is in absurd cc

module _ {V : Type 0} {O : V → Type 0} (G : (v : V) → Ghosts (O v)) (m : Module (SectionEntry V O)) (formed : IsFormed G m) (passes : PassesCheck (held_view m)) where
  abbrev config : Config
  config = config_of (settings m)

  pub made : IsWellMade config (view G m)
  made = checked_well G config m passes formed.formed formed.free

  -- gc refuses
  pub search_refused : (collects : Bool) → collects ≡ true → (e : Error) → RefusesSearch (ReachesUnsound (view G m)) (OneMayRefuse (meanings G m)) e → Ends collects config (held_view m) (view G m) (told_as_flaw (Err e))
  search_refused collects is (error.Memory memory) h = Unchecked tt
  search_refused collects is error.DeadItem h = Unsound refl is made h
  search_refused collects is (error.Caller text) h = absurd (formed.quiet h)
  search_refused collects is _ h = absurd h

  -- what is reached is there, where gc didn't refuse
  pub kept_well : (w : Abstract) → Collected (view G m) w → ReachesSound (view G m) → IsWellMade config w
  kept_well w collected sound = collected_well config (view G m) w made (λ x at. (sound x at).live) collected

  -- what emission answers
  module _ (collects : Bool) (kept left : Module (SectionEntry V O)) (collected : MayCollect collects (view G m) (view G kept)) (well : IsWellMade config (view G kept)) (customs : kept.customs ≡ m.customs) (stays : left.customs ≡ kept.customs) where
    same_meanings : meanings G kept ≡ meanings G m
    same_meanings = ap (λ (cs : ModuleCustomSections (SectionEntry V O)). map (meaning G) (items (sections cs))) customs

    never : OneAskedMayRefuse (meanings G kept) → ⊥
    never one = let asked : OneAskedMayRefuse (meanings G m) = subst OneAskedMayRefuse same_meanings one in formed.quiet (asked.0, asked.1, asked.3)

    ends_as : (u : Abstract) → Leaves (view G kept) u → EndsAs collects (view G m) u
    ends_as u leaves = record { module_kept = view G kept; collected = collected; left = leaves }

    by_result : (u : Abstract) (result : Result (Vec ℕ) Error) → LeavesBy (view G kept) u (told result)
        → WritesUnless (PassesLimits config u) (OneAskedMayRefuse (meanings G kept)) (λ (b : Vec ℕ). IsWellWritten config u b.items) (told result) → Ends collects config (held_view m) (view G m) (told_as_flaw result)
    by_result u (Ok x) leaves h = record { made = made; module_left = u; ends = ends_as u leaves; written = h }
    by_result u (Err (error.Memory e)) leaves h = Unchecked tt
    by_result u (Err error.TooLarge) leaves h = Large refl (record { made = made; module_left = u; ends = ends_as u leaves; too_large = h })
    by_result u (Err (error.Caller text)) leaves h = absurd (never h)
    by_result u (Err _) leaves h = absurd h

    pub ended : (f : Flags) → f ≡ settings m → (result : Result (Vec ℕ) Error) → LeavesBy (view G kept) (view G (but_customs kept left)) (told result)
        → (IsWellMade (config_of f) (view G kept) → WritesUnless (PassesLimits (config_of f) (view G left)) (OneMayRefuseThen G kept.customs left.customs) (λ (b : Vec ℕ). IsWellWritten (config_of f) (view G left) b.items) (told result))
        → Ends collects config (held_view m) (view G m) (told_as_flaw result)
    ended f is result leaves writes =
        by_result (view G left) result (leaves_whole G kept left stays (told result) leaves)
        (plain_well G kept left stays (PassesLimits config (view G left)) (λ (b : Vec ℕ). IsWellWritten config (view G left) b.items) (told result)
        (subst (λ (g : Flags). IsWellMade (config_of g) (view G kept) → WritesUnless (PassesLimits (config_of g) (view G left)) (OneMayRefuseThen G kept.customs left.customs) (λ (b : Vec ℕ). IsWellWritten (config_of g) (view G left) b.items) (told result)) is writes well))
