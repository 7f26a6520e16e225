-- Each refusal to write comes with its cause, and where all is written, there is none.
use Rattle.std.proofs.Common.{◌≡◌, ℕ, List, sym, subst}
use Rattle.std.specs.Prelude.{IfOk, Result, Ok, Err}
use Rattle.walrus_groups.specs.Indexed.{AreInOrder}
use Rattle.walrus_base.specs.ModuleTypes.{type_slots}
use Rattle.walrus_contents.specs.View.{parts_view}
use Rattle.walrus_contents.specs.declared.parts.Parts.{Parts}
use Rattle.wasm_frames.specs.Record as wire
use Rattle.walrus_base.specs.Operators.{Item}
use Rattle.walrus_code.specs.Names.{Lookup}
use Rattle.walrus_model.specs.Abstract.{Abstract, Custom}
use Rattle.walrus_model.specs.Config.{Config}
use Rattle.walrus_model.specs.Dead.{HasDead}
use Rattle.walrus_model.specs.WellMade.{ImportsMatch}
use Rattle.walrus_items.specs.declared.error.Error.{Error}
use Rattle.walrus_items.specs.declared.error.Error.TheVariants.{Memory, NoIndex, NotWritable, TooLarge, TwoIndices}
use Rattle.walrus_theorem.specs.Refused.{HasTwoIndices, IsSayable, LacksIndex, PassesLimits, RefusesToWrite}
use Rattle.walrus_theorem.proofs.NoCause.{two}
use Rattle.walrus_writing.specs.declared.write.Choices.{Choices}
use Rattle.walrus_writing.specs.Emitted.{IsWrittenWith, told}
use Rattle.walrus_plan.specs.Reads.{ReadsInOrder}
use Rattle.walrus_plan.specs.Refusals.{RefusesPlan}
use Rattle.walrus_plan.proofs.RefusesPlanned.{lacks_none}
use Rattle.walrus_writing.specs.Customs.{task}
use Rattle.walrus_writing.specs.Records.{DoesNotFit, Spells}
use Rattle.walrus_writing.specs.Refusals.{RefusesItems}
use Rattle.walrus_writing.proofs.Emitted.{choices_of, chosen_so}
use Rattle.walrus_writing.proofs.NoCauseAll.{none_unspelled}
use Rattle.walrus_theorem.proofs.SameItems.{dead_back, lacks_back, lacks_on, two_back, two_on, unspelled_back, unspelled_on, with_own}
use Rattle.walrus_writing.proofs.RefusesLarge.{passes, too_many_items}
use Rattle.walrus_writing.proofs.RefusesUnspelled.{unspelled}

module _ (c : Config) (p : Parts) (own : List Custom) (roots : List Item) where
  abbrev V : Abstract
  V = parts_view p

  abbrev W : Abstract
  W = with_own V own roots

  -- ---- before items are written

  -- they have no plan
  pub plan_refused : (X : Type 0) (e : Error) → RefusesPlan p e → RefusesToWrite {X = X} ⊥ c W (told {X = X} (Err e))
  plan_refused X (Memory m) r = tt
  plan_refused X TwoIndices r = two_on V own roots r
  plan_refused X NoIndex r = lacks_on V own roots r
  plan_refused X TooLarge r = (λ cause. r.0 (two_back V own roots cause), λ cause. r.1 (lacks_back V own roots cause), λ sayable. too_many_items c p own roots r.2)
  plan_refused X _ r = absurd r

  -- ---- items

  module _ (lives : HasDead V → ⊥) (matched : ImportsMatch V) (before : ReadsInOrder V) (ordered : AreInOrder (type_slots p.types.now)) (names : Lookup) (sections : List wire.Custom) where
    -- what a size too large comes from, and what is written passes no limit, with these choices
    abbrev Sizes : Choices → Type 0
    Sizes choices = (DoesNotFit p (task choices names sections) → IsSayable W → PassesLimits c W) × ((bytes : List ℕ) → Spells p (task choices names sections) bytes → PassesLimits c W → ⊥)

    abbrev Refuses : {X : Type 0} → (X → List ℕ) → Result X Error → Choices → Type 0
    Refuses view result choices = Sizes choices → IfOk result (λ x. Spells p (task choices names sections) (view x)) → RefusesItems p (task choices names sections) result → RefusesToWrite ⊥ c W (told result)

    two_none : HasTwoIndices W → ⊥
    two_none cause = two V matched (two_back V own roots cause)

    lacks_nothing : LacksIndex W → ⊥
    lacks_nothing cause = lacks_none p matched before ordered (lacks_back V own roots cause)

    items_with : {X : Type 0} (view : X → List ℕ) (result : Result X Error) → Refuses view result (choices_of c)
    items_with view (Ok x) sizes spells r = record {
      all_there = λ dead. lives (dead_back V own roots dead);
      one_index = two_none;
      indices = lacks_nothing;
      spelled = λ cause. none_unspelled c p spells.records (unspelled_back V own roots c cause);
      fits = sizes.1 (view x) spells;
    }
    items_with view (Err NotWritable) sizes spells r = unspelled_on V own roots c (unspelled c p lives r)
    items_with view (Err TooLarge) sizes spells r = (two_none, lacks_nothing, λ sayable. passes c p own roots names sections (λ d. sizes.0 d sayable) r)
    items_with view (Err (Memory m)) sizes spells r = tt
    items_with view (Err _) sizes spells r = absurd r

    -- what is said of items that name nothing dead, and of which each has one index, is so of the module seen
    pub items_refused : (choices : Choices) → IsWrittenWith c choices → {X : Type 0} (view : X → List ℕ) (result : Result X Error) → Refuses view result choices
    items_refused choices with view result = subst (Refuses view result) (sym (chosen_so c choices with)) (items_with view result)

-- ---- of a module seen with custom sections of its own

-- why parts have no plan, of each such module
pub plan_refused_of : (X : Type 0) (c : Config) (p : Parts) (v : Abstract) → v ≡ with_own (parts_view p) v.customs v.section_roots → (e : Error) → RefusesPlan p e → RefusesToWrite {X = X} ⊥ c v (told {X = X} (Err e))
plan_refused_of X c p v same e r = subst (λ (x : Abstract). RefusesToWrite {X = X} ⊥ c x (told {X = X} (Err e))) (sym same) (plan_refused c p v.customs v.section_roots X e r)
