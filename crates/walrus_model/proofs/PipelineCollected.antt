-- What gc leaves of a module is reached as before, is all kept, and is carried under the renaming that changes nothing.
use Rattle.std.proofs.Common.{◌≡◌, ℕ, true, false, refl, sym, ap, ◌∙◌, subst, inl, inr, ⊎_elim}
use Rattle.std.specs.Prelude.{Option, Some, None, IsSome, is_some}
use Rattle.walrus_base.specs.Operators.{Space, Types, Functions, Tables, Memories, Tags, Globals, Elements, DataSegments, Item}
use Rattle.walrus_model.specs.Abstract.{Abstract, Memory, Function, Uninitialised, Import}
use Rattle.walrus_model.specs.Live.{Has, IsLive}
use Rattle.walrus_model.specs.Refers.{named_by, type_names, function_names, table_names, memory_names, tag_names, global_names, element_names, data_names, written_in}
use Rattle.walrus_model.specs.Roots.{data_segment, element_segment}
use Rattle.walrus_model.specs.Reached.{Reached, root}
use Rattle.walrus_model.specs.Kept.{Kept, IsImportOf, IsSpareMemory, IsFirstMemory}
use Rattle.walrus_model.specs.Renaming.{unchanged, renamed_table, renamed_memory, renamed_tag, renamed_global, renamed_element, renamed_data, renamed_import}
use Rattle.walrus_model.specs.Same.{BothAnd, SameType, SameFunction}
use Rattle.walrus_model.specs.Carried.{Carries, Carried, In}
use Rattle.walrus_model.specs.Pipeline.{KeepsOnly, Collected, StaysCollected, ReachedIsLive}
use Rattle.walrus_model.proofs.PipelineSame.{table_stays, memory_stays, tag_stays, global_stays, element_stays, data_stays, import_stays, exports_stay, start_stays, type_itself, function_itself}
use Rattle.walrus_model.proofs.PipelineAlike.{AgreesOn, agrees_back, RootsIn, refers_follows, root_follows, reached_through, spare_through}
use Rattle.walrus_base.proofs.Standing.{some_of}

-- ---- what is reached and kept

module _ (v w : Abstract) (c : Collected v w) where
  kept_written : (x : Item) → Kept v x → written_in w x ≡ written_in v x
  kept_written (Types, i) k = ap (named_by type_names) (c.types.kept i k)
  kept_written (Functions, i) k = ap (named_by function_names) (c.functions.kept i k)
  kept_written (Tables, i) k = ap (named_by table_names) (c.tables.kept i k)
  kept_written (Memories, i) k = ap (named_by memory_names) (c.memories.kept i k)
  kept_written (Tags, i) k = ap (named_by tag_names) (c.tags.kept i k)
  kept_written (Globals, i) k = ap (named_by global_names) (c.globals.kept i k)
  kept_written (Elements, i) k = ap (named_by element_names) (c.elements.kept i k)
  kept_written (DataSegments, i) k = ap (named_by data_names) (c.data_segments.kept i k)

  agrees_collected : AgreesOn (Kept v) v w
  agrees_collected = record {
    exports = c.exports;
    begins = c.start;
    asks = c.section_roots;
    elements = c.elements.kept;
    data_segments = c.data_segments.kept;
    written = kept_written;
    table_segments = c.table_segments;
    memory_segments = c.memory_segments;
    handler_types = c.handler_types;
  }

  roots_before : RootsIn (Kept v) v
  roots_before = record {
    data_segments = λ i d at h. inl (root (DataSegments, i) (data_segment i d at h refl));
    elements = λ i e at h. inl (root (Elements, i) (element_segment i e at h refl));
  }

  roots_after : RootsIn (Kept v) w
  roots_after = record {
    data_segments = λ i d at h. (c.data_segments.left i d at).0;
    elements = λ i e at h. (c.elements.left i e at).0;
  }

  pub reached_in : (x : Item) → Reached v x → Reached w x
  reached_in = reached_through v w
      (root_follows (Kept v) v w agrees_collected roots_before)
      (λ x y h there refers. refers_follows (Kept v) v w agrees_collected x y (inl h) refers)

  pub reached_out : (x : Item) → Reached w x → Reached v x
  reached_out = reached_through w v
      (root_follows (Kept v) w v (agrees_back (Kept v) v w agrees_collected) roots_after)
      (λ x y h there refers. refers_follows (Kept v) w v (agrees_back (Kept v) v w agrees_collected) x y (inl there) refers)

  none_left : (j : ℕ) (o : Option Memory) → w.memories j ≡ o → v.memories j ≡ None → w.memories j ≡ None
  none_left j (Some y) at none = let no : None ≡ Some y = sym none ∙ (c.memories.left j y at).1 in absurd (cc)
  none_left j None at none = at

  first_stays : (x : Item) (s : IsSpareMemory v x) → IsFirstMemory w s.memory
  first_stays x s =
      let kept : Kept v (Memories, s.memory) = subst (λ (y : Item). Kept v y) s.is (inr s) in
      record {
        live = subst IsSome (sym (c.memories.kept s.memory kept)) s.first.live;
        first = λ j lt. none_left j (w.memories j) refl (s.first.first j lt);
      }

  stays_kept : (x : Item) → Kept v x → Kept w x
  stays_kept x k = ⊎_elim
      (λ h. inl (reached_in x h))
      (λ (s : IsSpareMemory v x). inr (spare_through v w reached_in reached_out x s (first_stays x s)))
      k

  live_left : (space : Space) (i : ℕ) → Has w space i → Kept v (space, i)
  live_left Types i h = let at = some_of (w.types i) h in (c.types.left i at.0 at.1).0
  live_left Functions i h = let at = some_of (w.functions i) h in (c.functions.left i at.0 at.1).0
  live_left Tables i h = let at = some_of (w.tables i) h in (c.tables.left i at.0 at.1).0
  live_left Memories i h = let at = some_of (w.memories i) h in (c.memories.left i at.0 at.1).0
  live_left Tags i h = let at = some_of (w.tags i) h in (c.tags.left i at.0 at.1).0
  live_left Globals i h = let at = some_of (w.globals i) h in (c.globals.left i at.0 at.1).0
  live_left Elements i h = let at = some_of (w.elements i) h in (c.elements.left i at.0 at.1).0
  live_left DataSegments i h = let at = some_of (w.data_segments i) h in (c.data_segments.left i at.0 at.1).0

  -- what is left was kept
  pub left_is_kept : (x : Item) → IsLive w x → Kept v x
  left_is_kept x h = live_left x.0 x.1 h

  import_stays_kept : (i : ℕ) → IsSome (w.imports i) → IsImportOf (Kept w) w i
  import_stays_kept i h =
      let at = some_of (w.imports i) h in
      let left = c.imports.left i at.0 at.1 in
      let same : Some left.0.0 ≡ Some at.0 = sym left.0.1 ∙ left.1 in
      let is : left.0.0 ≡ at.0 = cc in
      (at.0, at.1, stays_kept at.0.item (subst (λ (y : Import). Kept v y.item) is left.0.2))

  pub stays_collected_lem : StaysCollected v w
  stays_collected_lem = record {
    items = λ x h. stays_kept x (left_is_kept x h);
    imports = import_stays_kept;
    reached = λ x. (reached_out x, reached_in x);
  }

-- ---- what is kept as a carried module

both_itself : {X : Type 0} (S : X → X → Type 0) (a b : Option X) → b ≡ a → IsSome a → ((x : X) → a ≡ Some x → S x x) → BothAnd S a b
both_itself S (Some x) b e there law = subst (λ o. BothAnd S (Some x) o) (sym e) (law x refl)
both_itself S None b e there law = let no : false ≡ true = there in absurd (cc)

module _ {X : Type 0} (K : ℕ → Type 0) (S : ℕ → X → X → Type 0) (xs ys : ℕ → Option X) where
  pub kept_carries : KeepsOnly K xs ys → ((i : ℕ) → K i → IsSome (xs i)) → ((i : ℕ) (x : X) → xs i ≡ Some x → S i x x) → Carries K (λ j. ⊥) (λ i. i) S xs ys
  kept_carries o there law = record {
    same = λ i k. both_itself (S i) (xs i) (ys i) (o.kept i k) (there i k) (law i);
    onto = λ j h. let at = some_of (ys j) h in inl (j, (o.left j at.0 at.1).0, refl);
  }

pub kept_is_live : (v : Abstract) → ReachedIsLive v → (x : Item) → Kept v x → IsLive v x
kept_is_live v live x k = ⊎_elim
    (λ h. live x h)
    (λ (s : IsSpareMemory v x). subst (λ (y : Item). IsLive v y) (sym s.is) s.first.live)
    k

module _ (v w : Abstract) (c : Collected v w) (live : ReachedIsLive v) (made : (i : ℕ) (f : Function) → v.functions i ≡ Some f → f.kind ≡ Uninitialised → ⊥) where
  pub carried_collected : Carried (Kept v) (λ x. ⊥) unchanged v w
  carried_collected = record {
    types = kept_carries (In (Kept v) Types) (SameType (λ i. i)) v.types w.types c.types (λ i k. kept_is_live v live (Types, i) k) (λ i x at. type_itself unchanged (λ s n. refl) (λ n. refl) i x);
    imports = kept_carries (IsImportOf (Kept v) v) (λ i x y. y ≡ renamed_import unchanged x) v.imports w.imports c.imports (λ i k. ap is_some k.1) (λ i x at. sym (import_stays unchanged (λ s n. refl) (λ n. refl) x));
    functions = kept_carries (In (Kept v) Functions) (SameFunction unchanged) v.functions w.functions c.functions (λ i k. kept_is_live v live (Functions, i) k) (λ i f at. function_itself i f (made i f at));
    tables = kept_carries (In (Kept v) Tables) (λ i x y. y ≡ renamed_table unchanged x) v.tables w.tables c.tables (λ i k. kept_is_live v live (Tables, i) k) (λ i x at. sym (table_stays unchanged (λ s n. refl) (λ n. refl) x));
    memories = kept_carries (In (Kept v) Memories) (λ i x y. y ≡ renamed_memory unchanged x) v.memories w.memories c.memories (λ i k. kept_is_live v live (Memories, i) k) (λ i x at. sym (memory_stays unchanged (λ s n. refl) (λ n. refl) x));
    tags = kept_carries (In (Kept v) Tags) (λ i x y. y ≡ renamed_tag unchanged x) v.tags w.tags c.tags (λ i k. kept_is_live v live (Tags, i) k) (λ i x at. sym (tag_stays unchanged (λ s n. refl) (λ n. refl) x));
    globals = kept_carries (In (Kept v) Globals) (λ i x y. y ≡ renamed_global unchanged x) v.globals w.globals c.globals (λ i k. kept_is_live v live (Globals, i) k) (λ i x at. sym (global_stays unchanged (λ s n. refl) (λ n. refl) x));
    elements = kept_carries (In (Kept v) Elements) (λ i x y. y ≡ renamed_element unchanged x) v.elements w.elements c.elements (λ i k. kept_is_live v live (Elements, i) k) (λ i x at. sym (element_stays unchanged (λ s n. refl) (λ n. refl) x));
    data_segments = kept_carries (In (Kept v) DataSegments) (λ i x y. y ≡ renamed_data unchanged x) v.data_segments w.data_segments c.data_segments (λ i k. kept_is_live v live (DataSegments, i) k) (λ i x at. sym (data_stays unchanged (λ s n. refl) (λ n. refl) x));
    imports_apart = λ i j a b e. e;
    apart = λ space h i j a b e. e;
    exports = c.exports ∙ sym (exports_stay unchanged (λ s n. refl) (λ n. refl) v.exports);
    start = c.start ∙ sym (start_stays unchanged (λ s n. refl) (λ n. refl) v.start);
  }
