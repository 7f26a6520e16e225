-- All that gc leaves is sound, so that its items are looked through with no refusal but want of memory.
use Rattle.std.proofs.Common.{◌≡◌, ℕ, List, Option, sym, ap, ◌∙◌, subst, inl, inr}
use Rattle.std.specs.Prelude.{IsSome}
use Rattle.walrus.specs.Base.Operators.{Space, Types, Functions, Tables, Memories, Tags, Globals, Elements, DataSegments, Item}
use Rattle.walrus.specs.Contents.There.{IsSound}
use Rattle.walrus.specs.Items.CustomSection.{Ghosts}
use Rattle.walrus.specs.Model.Abstract.{Abstract}
use Rattle.walrus.specs.Model.Kept.{Kept}
use Rattle.walrus.specs.Model.Live.{Has, IsLive}
use Rattle.walrus.specs.Model.Pipeline.{Collected}
use Rattle.walrus.proofs.Model.PipelineCollected.{left_is_kept}
use Rattle.walrus.specs.Modules.View.{held_view, view}
use Rattle.walrus.specs.Modules.SectionEntry.{SectionEntry}
use Rattle.walrus.specs.Modules.Module.{Module}
use Rattle.walrus.specs.Collected.{Collects}
use Rattle.walrus.specs.Marked.{ReachesSound}
use Rattle.walrus_tools.specs.Callers.{AreCallers, HasUnsound}

module _ (v l : Abstract) (c : Collected v l) (sound : ReachesSound v) where
  -- what is kept is sound
  was_sound : (x : Item) → Kept v x → IsSound v x
  was_sound x (inl reached) = sound x reached
  was_sound x (inr spare) =
      let memory : (i : ℕ) → x ≡ (Functions, i) → ⊥ = λ i is. (let no : Functions ≡ Memories = ap (λ (y : Item). y.0) (sym is ∙ spare.is) in cc) in
      record {
        live = subst (λ (y : Item). IsLive v y) (sym spare.is) spare.first.live;
        initialised = λ i g is at. absurd (memory i is);
        locals = λ i g b k is at kind used. absurd (memory i is);
      }

  still_there : {X : Type 0} (was is : Option X) → is ≡ was → IsSome was → IsSome is
  still_there was is same h = subst IsSome (sym same) h

  still_live : (s : Space) (i : ℕ) → Kept v (s, i) → Has v s i → Has l s i
  still_live Types i k h = still_there (v.types i) (l.types i) (c.types.kept i k) h
  still_live Functions i k h = still_there (v.functions i) (l.functions i) (c.functions.kept i k) h
  still_live Tables i k h = still_there (v.tables i) (l.tables i) (c.tables.kept i k) h
  still_live Memories i k h = still_there (v.memories i) (l.memories i) (c.memories.kept i k) h
  still_live Tags i k h = still_there (v.tags i) (l.tags i) (c.tags.kept i k) h
  still_live Globals i k h = still_there (v.globals i) (l.globals i) (c.globals.kept i k) h
  still_live Elements i k h = still_there (v.elements i) (l.elements i) (c.elements.kept i k) h
  still_live DataSegments i k h = still_there (v.data_segments i) (l.data_segments i) (c.data_segments.kept i k) h

  is_sound : (x : Item) → Kept v x → IsSound l x
  is_sound x k =
      let s = was_sound x k in
      record {
        live = still_live x.0 x.1 k s.live;
        initialised = λ i g is at. s.initialised i g is (c.functions.left i g at).1;
        locals = λ i g b n is at kind used. s.locals i g b n is (c.functions.left i g at).1 kind used;
      }

module _ {V : Type 0} {O : V → Type 0} (G : (v : V) → Ghosts (O v)) where
  module _ (edited left : Module (SectionEntry V O)) (collects : Collects G edited left) where
    pub kept_sound : (x : Item) → Kept (view G edited) x → IsSound (view G left) x
    kept_sound x k = is_sound (view G edited) (view G left) collects.collected collects.sound x k

    pub left_sound : HasUnsound (held_view left) → ⊥
    left_sound (x, live, unsound) =
        let s = kept_sound x (left_is_kept (view G edited) (view G left) collects.collected x live) in
        unsound (record { live = s.live; initialised = s.initialised; locals = s.locals })

  -- custom sections refer to nothing
  pub callers_seen : (m : Module (SectionEntry V O)) (y : Item) (callers : List Item) → AreCallers (held_view m) y callers → AreCallers (view G m) y callers
  callers_seen m y callers are = record { rising = are.rising; are = are.are }
