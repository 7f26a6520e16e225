-- A module with custom sections of its own: what is said of what it holds is said of it, and what emission answers then.
use Rattle.std.proofs.Common.{◌≡◌, ℕ, List, [], ◌∷◌, sym, ap, ◌∙◌, subst}
use Rattle.std.specs.Prelude.{Result, Ok, Err}
use Rattle.walrus_base.specs.Operators.{Item}
use Rattle.walrus_items.specs.declared.custom.CustomSection.{Ghosts}
use Rattle.walrus_items.specs.declared.error.Error.{Error}
use Rattle.walrus_items.specs.declared.error.Error.TheVariants as error
use Rattle.walrus_contents.specs.There.{IsRefusal}
use Rattle.walrus_model.specs.Abstract.{Abstract, Custom}
use Rattle.walrus_model.specs.Config.{Config}
use Rattle.walrus_model.specs.Dead.{HasDead}
use Rattle.walrus_model.specs.Declared.{AreUndeclared, IsUndeclared, NothingUndeclared}
use Rattle.walrus_model.specs.Live.{IsLive}
use Rattle.walrus_theorem.specs.Chain.{AddsSegment, HasSegment, Leaves}
use Rattle.walrus_theorem.specs.Refused.{Refusal, Memory, DeadItem, NoIndex, TwoIndices, TooLarge, NotWritable, Caller, Another, RefusesToWrite}
use Rattle.walrus_writing.specs.Emitted.{told}
use Rattle.walrus_theorem.proofs.SameItems.{dead_on, with_own}
use Rattle.walrus_module.specs.Asked.{IsRefusedBy}
use Rattle.walrus_module.specs.Left.{ChangesElements}
use Rattle.walrus_module.specs.View.{held_view, view}
use Rattle.walrus_module.specs.declared.entry.SectionEntry.{SectionEntry}
use Rattle.walrus_module.specs.declared.module.Module.{Module}

-- ---- the declared segment

module _ (v : Abstract) (customs : List Custom) (roots : List Item) where
  undeclared_on : (f : ℕ) → IsUndeclared (IsLive v) v f → IsUndeclared (IsLive (with_own v customs roots)) (with_own v customs roots) f
  undeclared_on f u = record { named = u.named; not_exported = u.not_exported; not_listed = u.not_listed }

module _ (v : Abstract) (customs : List Custom) (roots : List Item) where
  pub undeclared_back : (f : ℕ) → IsUndeclared (IsLive (with_own v customs roots)) (with_own v customs roots) f → IsUndeclared (IsLive v) v f
  undeclared_back f u = undeclared_on (with_own v customs roots) v.customs v.section_roots f u

  pub nothing_back : NothingUndeclared (with_own v customs roots) → NothingUndeclared v
  nothing_back nothing = λ f u. nothing f (undeclared_on v customs roots f u)

  are_on : (fs : List ℕ) → AreUndeclared (IsLive v) v fs → AreUndeclared (IsLive (with_own v customs roots)) (with_own v customs roots) fs
  are_on fs are = record {
    rising = are.rising;
    are = λ f. (λ at. undeclared_on v customs roots f ((are.are f).0 at), λ u. (are.are f).1 (undeclared_back f u));
  }

segment_on : (v u : Abstract) (customs : List Custom) (roots : List Item) (fs : List ℕ) → HasSegment v u fs → HasSegment (with_own v customs roots) (with_own u customs roots) fs
segment_on v u customs roots fs s = record { id = s.id; is = s.is; last = s.last; unnamed = s.unnamed; others = s.others }

added_on : (v u : Abstract) (customs : List Custom) (roots : List Item) (fs : List ℕ) → AddsSegment v u fs → AddsSegment (with_own v customs roots) (with_own u customs roots) fs
added_on v u customs roots [] same = ap (λ (x : Abstract). with_own x customs roots) same
added_on v u customs roots (f ∷ fs) s = (segment_on v u customs roots (f ∷ fs) s.0, ap (λ (x : Abstract). with_own x customs roots) s.1)

pub leaves_on : (v u : Abstract) (customs : List Custom) (roots : List Item) → Leaves v u → Leaves (with_own v customs roots) (with_own u customs roots)
leaves_on v u customs roots leaves = record {
  functions = leaves.functions;
  undeclared = are_on v customs roots leaves.functions leaves.undeclared;
  added = added_on v u customs roots leaves.functions leaves.added;
}

-- ---- where nothing but element segments changes, custom sections stay

module _ {V : Type 0} {O : V → Type 0} (G : (v : V) → Ghosts (O v)) (old new : Module (SectionEntry V O)) (others : ChangesElements old new) where
  own_stay : with_own (held_view new) (view G old).customs (view G old).section_roots ≡ view G new
  own_stay = ap (λ (m : Module (SectionEntry V O)). with_own (held_view new) (view G m).customs (view G m).section_roots) (sym others)

  pub module_leaves : Leaves (held_view old) (held_view new) → Leaves (view G old) (view G new)
  module_leaves leaves = subst (λ (x : Abstract). Leaves (view G old) x) own_stay (leaves_on (held_view old) (held_view new) (view G old).customs (view G old).section_roots leaves)

  pub module_unchanged : held_view new ≡ held_view old → view G new ≡ view G old
  module_unchanged same = sym own_stay ∙ ap (λ (x : Abstract). with_own x (view G old).customs (view G old).section_roots) same

-- ---- what emission answers

-- what doesn't come of a section of its own
pub refused_anyway : {X : Type 0} (A : Type 0) (c : Config) (v : Abstract) (result : Result X Refusal) → RefusesToWrite ⊥ c v result → RefusesToWrite A c v result
refused_anyway A c v (Ok x) r = r
refused_anyway A c v (Err Memory) r = tt
refused_anyway A c v (Err DeadItem) r = r
refused_anyway A c v (Err TwoIndices) r = r
refused_anyway A c v (Err NoIndex) r = r
refused_anyway A c v (Err NotWritable) r = r
refused_anyway A c v (Err TooLarge) r = r
refused_anyway A c v (Err Caller) r = absurd r
refused_anyway A c v (Err Another) r = r

-- a section of its own refuses
pub asked_refused : (X : Type 0) (A : Type 0) (c : Config) (v : Abstract) (e : Error) → IsRefusedBy A e → RefusesToWrite {X = X} A c v (told {X = X} (Err e))
asked_refused X A c v (error.Memory m) r = tt
asked_refused X A c v (error.Caller text) r = r
asked_refused X A c v _ r = absurd r

-- something is named that isn't there
pub dead_refused : (X : Type 0) (A : Type 0) (c : Config) (v : Abstract) (customs : List Custom) (roots : List Item) (e : Error) → IsRefusal (HasDead v) e → RefusesToWrite {X = X} A c (with_own v customs roots) (told {X = X} (Err e))
dead_refused X A c v customs roots (error.Memory m) r = tt
dead_refused X A c v customs roots error.DeadItem r = dead_on v customs roots r
dead_refused X A c v customs roots _ r = absurd r
