-- The answers of a run with its moves: what the configuration comes to, and refusals.
use Rattle.std.proofs.Common.{◌≡◌, ℕ, true, List, refl, ap, ◌∙◌, subst}
use Rattle.std.specs.Prelude.{IfOk, IsErrAnd, Option, None, Result, Err}
use Rattle.walrus.specs.Items.Functions.{ModuleFunctions}
use Rattle.walrus.specs.Model.Config.{Config}
use Rattle.walrus.specs.Model.Pipeline.{Collected}
use Rattle.walrus.specs.Theorem.Refused.{RefusesToWrite}
use Rattle.walrus.specs.Items.CustomSection.{Ghosts}
use Rattle.walrus.specs.Items.Error.{Error}
use Rattle.walrus.specs.Items.Error.TheVariants as error
use Rattle.walrus.specs.Items.RawCustomSection.{RawCustomSection}
use Rattle.walrus.specs.Modules.Asked.{OneMayRefuse}
use Rattle.walrus.specs.Modules.Customs.{sections}
use Rattle.walrus.specs.Modules.Emitted.{IsEmitted, told}
use Rattle.walrus.specs.Modules.Flags.{Flags, config_of, defaults}
use Rattle.walrus.specs.Modules.Following.{OneMayRefuseThen}
use Rattle.walrus.specs.Modules.Left.{LeavesBy, but_customs}
use Rattle.walrus.specs.Modules.Located.{GivenBy, IsPlace}
use Rattle.walrus.specs.Modules.Parsed.{AreLocated, IsParsed}
use Rattle.walrus.specs.Modules.Raws.{raw_sections}
use Rattle.walrus.specs.Modules.Settings.{settings}
use Rattle.walrus.specs.Modules.View.{meanings, view}
use Rattle.walrus.specs.Modules.SectionEntry.{SectionEntry}
use Rattle.walrus.specs.Modules.LocationHook.{LocationHook}
use Rattle.walrus.specs.Modules.Module.{Module}
use Rattle.walrus.proofs.Modules.KeptRaw.{none_asked_refuses, none_refuses}
use Rattle.walrus.specs.Headline.{RunsOn}
use Rattle.walrus.specs.Marked.{ReachesUnsound}
use Rattle.walrus.specs.Used.{RefusesSearch}
use Rattle.walrus.proofs.HeadlineLemmas.{answers_gc, answers_kept}
use Rattle.walrus.proofs.Modules.RawStays.{leaves_whole, none_refuses_then}

-- ---- the configuration

module _ (f g : Flags) (begun : f ≡ defaults) (set : g ≡ record f { preserve_code_transform = true }) where
  pub same_config : config_of g ≡ config_of defaults
  same_config = ap config_of (set ∙ ap (λ (x : Flags). record x { preserve_code_transform = true }) begun)

  pub keeps_transform : g.preserve_code_transform ≡ true
  keeps_transform = ap (λ (x : Flags). x.preserve_code_transform) set

-- without a function of the caller's, locations are places
pub located_by_place : {V : Type 0} {O : V → Type 0} {calls : _} (hook : Option (LocationHook V O calls)) (bytes : List ℕ) (funcs : ModuleFunctions) → hook ≡ None → AreLocated (GivenBy hook) bytes funcs → AreLocated IsPlace bytes funcs
located_by_place hook bytes funcs none are = subst (λ h. AreLocated (GivenBy h) bytes funcs) none are

-- ---- a refusal is one of whatever is answered

pub also_refused : {X Y : Type 0} (c : Config) (bytes : List ℕ) (seen : X → List ℕ) (other : Y → List ℕ) (e : Error) → RunsOn c bytes seen (Err e) → RunsOn c bytes other (Err e)
also_refused c bytes seen other (error.Memory m) h = tt
also_refused c bytes seen other (error.InvalidWasm kind) h = h
also_refused c bytes seen other error.TooLarge h = h
also_refused c bytes seen other _ h = absurd h

-- ---- what gc and emission answer under such a configuration

module _ {V : Type 0} {O : V → Type 0} (G : (v : V) → Ghosts (O v)) (bytes : List ℕ) (f : Flags) (same : config_of f ≡ config_of defaults) (read : Module (SectionEntry V O)) (found : IsParsed (config_of f) bytes (view G read))
    (raws : List RawCustomSection) (are : sections read.customs ≡ raw_sections raws) where
  pub gc_refused : {X : Type 0} (seen : X → List ℕ) (e : Error) (result : Result X Error) → RefusesSearch (ReachesUnsound (view G read)) (OneMayRefuse (meanings G read)) e → IsErrAnd result (λ x. x ≡ e) → RunsOn (config_of defaults) bytes seen result
  gc_refused seen e result refused given =
      subst (λ (c : Config). RunsOn c bytes seen result) same
      (answers_gc (config_of f) seen (OneMayRefuse (meanings G read)) bytes bytes refl (view G read) e result found (none_refuses G read raws are) refused given)

  module _ (kept left : Module (SectionEntry V O)) (stays : kept.customs ≡ read.customs) (raw : left.customs ≡ kept.customs) (keeps : settings kept ≡ f) where
    pub emission_answers : {X : Type 0} (seen : X → List ℕ) (result : Result X Error) → Collected (view G read) (view G kept) → LeavesBy (view G kept) (view G (but_customs kept left)) (told result)
        → IfOk result (λ x. IsEmitted (config_of (settings kept)) (view G left) (seen x)) → RefusesToWrite (OneMayRefuseThen G kept.customs left.customs) (config_of (settings kept)) (view G left) (told result) → RunsOn (config_of defaults) bytes seen result
    emission_answers seen result collected leaves emitted refused =
        subst (λ (c : Config). RunsOn c bytes seen result) same
        (answers_kept seen (OneMayRefuseThen G kept.customs left.customs) (none_refuses_then G kept left raw (none_asked_refuses G kept raws (ap sections stays ∙ are))) f (settings kept) keeps bytes bytes refl
        (view G read) (view G kept) (view G left) result found collected (leaves_whole G kept left raw (told result) leaves) emitted refused)
