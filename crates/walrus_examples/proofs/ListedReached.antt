-- A module that was parsed, with functions more that sections ask to keep: what is reached is there.
use Rattle.std.proofs.Common.{ℕ, List, refl, sym, ap, ◌∙◌, subst, inl, inr}
use Rattle.std.specs.Prelude.{Contains, IsTrue, is_some}
use Rattle.walrus.specs.Base.Operators.{Types, Functions, Tables, Memories, Tags, Globals, Elements, DataSegments, Item}
use Rattle.walrus.specs.Model.Abstract.{Abstract, Custom}
use Rattle.walrus.specs.Model.Config.{Config}
use Rattle.walrus.specs.Model.Live.{IsLive}
use Rattle.walrus.specs.Model.Pipeline.{ReachedIsLive}
use Rattle.walrus.specs.Model.Refers.{KeepsToo}
use Rattle.walrus.specs.Theorem.EditLaws.{LeadsToLive, StaysWhole, further, itself}
use Rattle.walrus.specs.Theorem.Sound.{IsFreeName}
use Rattle.walrus.specs.Theorem.WellMade.{IsWellMade}
use Rattle.walrus.proofs.Theorem.EditTops.{customs_stay}
use Rattle.walrus.proofs.Theorem.SameItems.{live_on, with_own, live_back as live_back_own}
use Rattle.walrus.proofs.Theorem.StepParsed.{live_back, live_forth, live_v, places_of}
use Rattle.walrus.proofs.Theorem.StepRead.{read_is_plain}
use Rattle.walrus.specs.Modules.Parsed.{IsParsed}
use Rattle.walrus.proofs.Theorem.EditedKeeps.{kept_on}

-- where what items keep is there, all that is there leads to what is there
module _ (c : Config) (m : Abstract) (made : IsWellMade c m) (keeps : (x y : Item) → IsLive m x → KeepsToo m x y → IsLive m y) where
  pub all_lead : (x : Item) → IsLive m x → LeadsToLive m x
  all_lead x here y itself = here
  all_lead x here y (further k z h (inl at)) = made.rules.indices.written k y at
  all_lead x here y (further k z h (inr q)) = keeps k y (all_lead x here k h) q

module _ (c : Config) (bytes : List ℕ) (v : Abstract) (parsed : IsParsed c bytes v) (made : IsWellMade c v) where
  abbrev read : Abstract
  read = parsed.module_read

  -- what is kept beside what is written in an item is there, where the item is
  pub keeps_live : (x y : Item) → IsLive v x → KeepsToo v x y → IsLive v y
  keeps_live (Functions, f) y live (t, at, is) =
      let plain = read_is_plain c bytes read parsed.reads in
      let needed = (places_of c read v parsed.parsed plain parsed.holds f (live_back c read v parsed.parsed (Functions, f) (λ e. absurd (cc)) live)).back t at in
      subst (λ (z : Item). IsLive v z) (sym is) (ap is_some (parsed.parsed.types_made t ∙ needed.2.0))
  keeps_live (Tables, t) y live (e, at, is) =
      live_forth c read v parsed.parsed y ((read_is_plain c bytes read parsed.reads).sets (Tables, t) y (e, subst IsTrue (parsed.parsed.table_segments t e) at, is))
  keeps_live (Memories, i) y live (d, at, is) =
      live_forth c read v parsed.parsed y ((read_is_plain c bytes read parsed.reads).sets (Memories, i) y (d, subst IsTrue (parsed.parsed.memory_segments i d) at, is))
  keeps_live (Types, i) y live none = absurd none
  keeps_live (Tags, i) y live none = absurd none
  keeps_live (Globals, i) y live none = absurd none
  keeps_live (Elements, i) y live none = absurd none
  keeps_live (DataSegments, i) y live none = absurd none

  -- sections of any free names may ask to keep what is there
  module _ (customs : List Custom) (roots : List Item) (there : (x : Item) → Contains roots x → IsLive v x) (free : (s : Custom) → Contains customs s → IsFreeName s.name) where
    abbrev W : Abstract
    W = with_own v customs roots

    stays : StaysWhole c v W ((x : Item) → Contains roots x → LeadsToLive W x)
    stays = customs_stay c v W made refl free (λ x at asked. inr (asked x at))

    leads : (x : Item) → IsLive W x → LeadsToLive W x
    leads = all_lead c W stays.made (λ x y here keeps. live_on v customs roots y (keeps_live x y (live_back_own v customs roots x here) (kept_on v W x y (λ i is. refl) (λ i is. refl) (λ i is. refl) keeps)))

    pub listed_made : IsWellMade c W
    listed_made = stays.made

    pub reached_there : ReachedIsLive W
    reached_there = stays.reached (λ x at. leads x (live_on v customs roots x (there x at))) (live_v c read v parsed.parsed (read_is_plain c bytes read parsed.reads) parsed.holds)
