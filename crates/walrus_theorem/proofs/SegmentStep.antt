-- The declared segment: the module with it takes over the one without it.
use Rattle.std.proofs.Common.{◌≡◌, ℕ, List, [], ◌∷◌, map, refl, sym, ap, ◌∙◌, subst, inr, ⊎_elim}
use Rattle.std.specs.Prelude.{Option, Some, None, IsSome, is_some, Contains, flat_map}
use Rattle.std.proofs.lemmas.Option.{same_Some}
use Rattle.walrus_base.specs.Operators.{Space, Types, Functions, Tables, Memories, Tags, Globals, Elements, DataSegments, Item, Op, type_item, function_item, names_of, op_names}
use Rattle.walrus_base.specs.Types.{val_names}
use Rattle.walrus_model.specs.Abstract.{Abstract, Function, Uninitialised, Global, Body, Element, DeclaredElements, ListedFunctions, Import}
use Rattle.walrus_model.specs.Carried.{Carried, In}
use Rattle.walrus_model.specs.Declared.{AreUndeclared, IsUndeclared, IsRefInBody, IsRefInGlobal, ref_func}
use Rattle.walrus_model.specs.Kept.{IsImportOf}
use Rattle.walrus_model.specs.Live.{IsLive}
use Rattle.walrus_model.specs.Names.{body_of}
use Rattle.walrus_model.specs.Order.{ByImport}
use Rattle.walrus_model.specs.Out.{IsTheSegment}
use Rattle.walrus_model.specs.Pipeline.{KeepsOnly}
use Rattle.walrus_model.specs.Refers.{named_by, written_in, body_names, kind_names, function_names, global_names, element_names, local_names, used_locals}
use Rattle.walrus_model.specs.Renaming.{unchanged, renamed_table, renamed_memory, renamed_tag, renamed_global, renamed_element, renamed_data, renamed_import}
use Rattle.walrus_model.specs.Rules.{IndicesHold}
use Rattle.walrus_model.specs.Same.{SameType, SameFunction}
use Rattle.walrus_base.proofs.Lists.{Contains-head, Contains-tail, Contains-append_1, Contains-append_2}
use Rattle.walrus_model.proofs.PipelineCollected.{kept_carries}
use Rattle.walrus_model.proofs.PipelineOps.{from_map}
use Rattle.walrus_model.proofs.PipelineSame.{table_stays, memory_stays, tag_stays, global_stays, element_stays, data_stays, import_stays, exports_stay, start_stays, type_itself, function_itself}
use Rattle.walrus_model.specs.RulesCarried.{TakenOver}
use Rattle.walrus_theorem.proofs.StepLeaves.{Between, SegmentIs, carried_between, old_elements}
use Rattle.walrus_theorem.proofs.Things.{body_at}
use Rattle.walrus_model.proofs.TypeRules.{Contains-flat_map}

all_kept : {X : Type 0} (xs : ℕ → Option X) → KeepsOnly (λ i. IsSome (xs i)) xs xs
all_kept xs = record { kept = λ i k. refl; left = λ i x at. (ap is_some at, at) }

-- a module is all of itself
pub carried_itself : (w : Abstract) → ((i : ℕ) (f : Function) → w.functions i ≡ Some f → f.kind ≡ Uninitialised → ⊥) → ((i : ℕ) (x : Import) → w.imports i ≡ Some x → IsLive w x.item) → Carried (IsLive w) (λ x. ⊥) unchanged w w
carried_itself w made imports = record {
  types = kept_carries (In (IsLive w) Types) (SameType (λ i. i)) w.types w.types (all_kept w.types) (λ i k. k) (λ i x at. type_itself unchanged (λ s n. refl) (λ n. refl) i x);
  imports = kept_carries (IsImportOf (IsLive w) w) (λ i x y. y ≡ renamed_import unchanged x) w.imports w.imports (record { kept = λ i k. refl; left = λ i x at. ((x, at, imports i x at), at) }) (λ i k. ap is_some k.1) (λ i x at. sym (import_stays unchanged (λ s n. refl) (λ n. refl) x));
  functions = kept_carries (In (IsLive w) Functions) (SameFunction unchanged) w.functions w.functions (all_kept w.functions) (λ i k. k) (λ i f at. function_itself i f (made i f at));
  tables = kept_carries (In (IsLive w) Tables) (λ i x y. y ≡ renamed_table unchanged x) w.tables w.tables (all_kept w.tables) (λ i k. k) (λ i x at. sym (table_stays unchanged (λ s n. refl) (λ n. refl) x));
  memories = kept_carries (In (IsLive w) Memories) (λ i x y. y ≡ renamed_memory unchanged x) w.memories w.memories (all_kept w.memories) (λ i k. k) (λ i x at. sym (memory_stays unchanged (λ s n. refl) (λ n. refl) x));
  tags = kept_carries (In (IsLive w) Tags) (λ i x y. y ≡ renamed_tag unchanged x) w.tags w.tags (all_kept w.tags) (λ i k. k) (λ i x at. sym (tag_stays unchanged (λ s n. refl) (λ n. refl) x));
  globals = kept_carries (In (IsLive w) Globals) (λ i x y. y ≡ renamed_global unchanged x) w.globals w.globals (all_kept w.globals) (λ i k. k) (λ i x at. sym (global_stays unchanged (λ s n. refl) (λ n. refl) x));
  elements = kept_carries (In (IsLive w) Elements) (λ i x y. y ≡ renamed_element unchanged x) w.elements w.elements (all_kept w.elements) (λ i k. k) (λ i x at. sym (element_stays unchanged (λ s n. refl) (λ n. refl) x));
  data_segments = kept_carries (In (IsLive w) DataSegments) (λ i x y. y ≡ renamed_data unchanged x) w.data_segments w.data_segments (all_kept w.data_segments) (λ i k. k) (λ i x at. sym (data_stays unchanged (λ s n. refl) (λ n. refl) x));
  imports_apart = λ i j a b e. e;
  apart = λ space h i j a b e. e;
  exports = sym (exports_stay unchanged (λ s n. refl) (λ n. refl) w.exports);
  start = sym (start_stays unchanged (λ s n. refl) (λ n. refl) w.start);
}

-- what ref.func names in an item that is there is there
module _ (v : Abstract) (named : (x y : Item) → Contains (written_in v x) y → IsLive v y) where
  live_ref : (i f : ℕ) (body : Body) → body_of v i ≡ Some body → Contains body.operators (ref_func f) → IsLive v (Functions, f)
  live_ref i f body e at =
      let x = body_at (v.functions i) body e in
      let in_ops : Contains (names_of body.operators) (function_item f) = Contains-flat_map op_names body.operators (ref_func f) (function_item f) at (Contains-head (function_item f) []) in
      let in_body : Contains (body_names body) (function_item f) = Contains-append_1 (function_item f) (names_of body.operators) (flat_map (local_names body) (used_locals body)) in_ops in
      let in_kind : Contains (kind_names x.0.kind) (function_item f) = subst (λ t. Contains (kind_names t) (function_item f)) (sym x.2) in_body in
      let in_function : Contains (function_names x.0) (function_item f) = Contains-tail (type_item x.0.ty) (function_item f) (kind_names x.0.kind) in_kind in
      named (Functions, i) (function_item f) (subst (λ o. Contains (named_by function_names o) (function_item f)) (sym x.1) in_function)

  live_get : (i f : ℕ) (x : Global) (ops : List Op) → v.globals i ≡ Some x → x.initialiser ≡ Some ops → Contains ops (ref_func f) → IsLive v (Functions, f)
  live_get i f x ops e k at =
      let in_ops : Contains (names_of ops) (function_item f) = Contains-flat_map op_names ops (ref_func f) (function_item f) at (Contains-head (function_item f) []) in
      let in_value : Contains (named_by names_of x.initialiser) (function_item f) = subst (λ o. Contains (named_by names_of o) (function_item f)) (sym k) in_ops in
      let in_global : Contains (global_names x) (function_item f) = Contains-append_2 (function_item f) (map type_item (val_names x.ty.value)) (named_by names_of x.initialiser) in_value in
      named (Globals, i) (function_item f) (subst (λ o. Contains (named_by global_names o) (function_item f)) (sym e) in_global)

  pub live_undeclared : (f : ℕ) → IsUndeclared (IsLive v) v f → IsLive v (Functions, f)
  live_undeclared f u = ⊎_elim
      (λ (h : IsRefInBody (IsLive v) v f). live_ref h.0 f h.1 h.3 h.4)
      (λ (h : IsRefInGlobal (IsLive v) v f). live_get h.0 f h.1 h.2 h.4 h.5 h.6)
      u.named

module _ (w : Abstract) (elements : ℕ → Option Element) (fs : List ℕ) (b : Between w (record w { elements = elements }) fs) (are : AreUndeclared (IsLive w) w fs) where
  abbrev u : Abstract
  u = record w { elements = elements }

  -- the segment lists the functions
  segment_at : (gs : List ℕ) → SegmentIs elements gs b.segment → (j : ℕ) → b.segment ≡ Some j → elements j ≡ Some (record { kind = DeclaredElements; items = ListedFunctions gs })
  segment_at [] is j at = absurd (let none : None ≡ Some j = sym is ∙ at in cc)
  segment_at (g ∷ gs) is j at = subst (λ k. elements k ≡ Some (record { kind = DeclaredElements; items = ListedFunctions (g ∷ gs) })) (same_Some is.0 j (sym is.1 ∙ at)) is.2

  pub the_segment : (j : ℕ) → b.segment ≡ Some j → elements j ≡ Some (record { kind = DeclaredElements; items = ListedFunctions fs })
  the_segment j at = segment_at fs b.is j at

  -- all but element segments is as it was
  pub live_too : (x : Item) → IsLive w x → IsLive u x
  live_too (Types, i) h = h
  live_too (Functions, i) h = h
  live_too (Tables, i) h = h
  live_too (Memories, i) h = h
  live_too (Tags, i) h = h
  live_too (Globals, i) h = h
  live_too (Elements, i) h = subst IsSome (sym (old_elements w elements fs b i h)) h
  live_too (DataSegments, i) h = h

  is_element : (space : Space) (j : ℕ) → IsTheSegment b.segment (space, j) → space ≡ Elements
  is_element Elements j h = refl
  is_element Types j h = absurd h
  is_element Functions j h = absurd h
  is_element Tables j h = absurd h
  is_element Memories j h = absurd h
  is_element Tags j h = absurd h
  is_element Globals j h = absurd h
  is_element DataSegments j h = absurd h

  module _ (rules : IndicesHold (ByImport w) w) where
    added_names : (space : Space) (j : ℕ) (y : Item) → IsTheSegment b.segment (space, j) → Contains (written_in u (space, j)) y → IsLive u y
    added_names Elements j y h at =
        let names : Contains (map function_item fs) y = subst (λ (o : Option Element). Contains (named_by element_names o) y) (the_segment j h) at in
        let f = from_map function_item y fs names in
        subst (IsLive u) f.2 (live_too (Functions, f.0) (live_undeclared w rules.written f.0 ((are.are f.0).0 f.1)))
    added_names Types j y h at = absurd h
    added_names Functions j y h at = absurd h
    added_names Tables j y h at = absurd h
    added_names Memories j y h at = absurd h
    added_names Tags j y h at = absurd h
    added_names Globals j y h at = absurd h
    added_names DataSegments j y h at = absurd h

    pub segment_taken : ((i : ℕ) (f : Function) → w.functions i ≡ Some f → f.kind ≡ Uninitialised → ⊥) → ((i : ℕ) (x : Import) → w.imports i ≡ Some x → IsLive w x.item) → TakenOver (IsLive w) (IsTheSegment b.segment) (ByImport w) (ByImport u) unchanged w u
    segment_taken made imports = record {
      carried = carried_between w elements fs b (IsLive w) w (carried_itself w made imports);
      named = λ x y k at. rules.written x y at;
      exported = rules.exports;
      started = rules.start;
      types_rise = λ i j x y lt. lt;
      globals_rise = λ i j x y before. before;
      kinds = λ s j h. inr (is_element s j h);
      added = λ x y h at. added_names x.0 x.1 y h at;
      added_types = λ j y none. absurd none;
      declared = λ j e h at. let same : Some (record { kind = DeclaredElements; items = ListedFunctions fs }) ≡ Some e = sym (the_segment j h) ∙ at in let is : record { kind = DeclaredElements; items = ListedFunctions fs } ≡ e = cc in sym (ap (λ (x : Element). x.kind) is);
    }
