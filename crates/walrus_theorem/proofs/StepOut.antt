-- What the steps come to is what is said of the module that was read.
use Rattle.std.proofs.Common.{◌≡◌, ℕ, ◌<◌, ◌≤◌, Bool, true, false, List, [], ◌∷◌, ◌++◌, length, map, filter, refl, sym, ap, ap₂, ◌∙◌, subst, arith, inl, inr, ⊎_elim, ◌⊎◌}
use Rattle.std.specs.Prelude.{Option, Some, None, IsSome, is_some, option_map, slice_get, Contains, not, ◌||◌, cond}
use Rattle.wasm_forms.proofs.Bind.{some_same}
use Rattle.walrus_base.specs.Operators.{Space, Types, Functions, Tables, Memories, Tags, Globals, Elements, DataSegments, Item, Op}
use Rattle.walrus_base.specs.Types.{CompType}
use Rattle.walrus_model.specs.Abstract.{Abstract, Body, Function, Table, Memory, Tag, Global, Import, Element, ListedFunctions, DeclaredElements, Custom, Indices, Subject, TheModule, AnItem, ALocal}
use Rattle.walrus_model.specs.Live.{IsLive}
use Rattle.walrus_model.specs.Kept.{Kept, IsImportOf}
use Rattle.walrus_model.specs.Refers.{IsUsed, used_locals}
use Rattle.walrus_model.specs.Renaming.{Renaming, unchanged, joined, renamed, renamed_import, renamed_element}
use Rattle.walrus_model.specs.Same.{SameType, SameBody}
use Rattle.walrus_model.specs.Carried.{Carries, Carried}
use Rattle.walrus_model.specs.Order.{ByIndex, ByImport, FunctionsByImport, OriginsInOrder}
use Rattle.walrus_model.specs.Config.{Config}
use Rattle.walrus_model.specs.Names.{body_of, body_of_function, own_name, name_of, last_name, IsNoType, MayBeNamed, AreNamed, WritesNames}
use Rattle.walrus_model.specs.Handlers.{handlers_of}
use Rattle.walrus_model.specs.Producers.{if_written}
use Rattle.walrus_model.specs.Customs.{is_dylink, is_debug_name, no_indices, fixed, written_customs}
use Rattle.walrus_model.specs.Declared.{ref_func, IsRefInBody, IsRefInGlobal, IsUndeclared, AreUndeclared, HasDeclaredSegment, Declares}
use Rattle.walrus_model.specs.Laws.{Joins}
use Rattle.walrus_model.specs.Out.{MayBeAdded, IsTheSegment, IsHandlerType, IsTypeOf, OutOf, Out, Written}
use Rattle.walrus_model.specs.Rules.{Holds}
use Rattle.walrus_model.specs.Pipeline.{IsSubjectOf, Collected}
use Rattle.walrus_theorem.specs.Chain.{alone, IsLoneTypeAt, handlers_by, ParsedAs, BringsTo}
use Rattle.walrus_theorem.specs.Pinned.{IsWrittenAs}
use Rattle.walrus_model.proofs.StepPlain.{IsPlain}
use Rattle.walrus_base.proofs.Lists.{Contains-head, Contains-tail, Contains-map}
use Rattle.walrus_model.proofs.Compose.{carried_joined}
use Rattle.walrus_model.proofs.Steps.{given, live_under, import_under}
use Rattle.walrus_model.proofs.Follow.{used_follow}
use Rattle.walrus_model.proofs.PipelineSame.{import_stays}
use Rattle.walrus_model.proofs.PipelineCollected.{left_is_kept, carried_collected}
use Rattle.walrus_model.proofs.PipelineOps.{from_map, refs_back, refs_on, kind_body_on, kind_body_back, kinds_in_order, both_at, at_both, both_same}
use Rattle.walrus_theorem.proofs.StepHandlers.{Placed}
use Rattle.walrus_theorem.proofs.StepParsed.{in_place, Behind, carried_parsed, tables_stay, memories_stay, tags_stay, globals_stay, elements_stay, function_of_v, initialised, exports_same, below_some, places_of, IsPlace, place_reached, kept_on, kept_either, live_v, kept_live}
use Rattle.walrus_theorem.proofs.StepTypes.{lone_type}
use Rattle.walrus_theorem.proofs.StepLeaves.{SegmentIs, Between, between, is_segment, declares_none, nothing_undeclared, carried_between}
use Rattle.walrus_theorem.proofs.Straight.{not_there}
use Rattle.walrus_base.proofs.Standing.{some_of}

-- ---- custom sections whose data is the same under all indices

module _ (a b : Indices) where
  fixed_same : (s : Custom) → ((x y : Indices) → s.data_under x ≡ s.data_under y) → fixed a s ≡ fixed b s
  fixed_same s plain = ap (λ (d : List ℕ). let c : Custom = record { name = s.name; data_under = λ other. d } in c) (plain a b)

  next_same : (t : Bool) (s : Custom) → fixed a s ≡ fixed b s → (cs : List Custom) → map (fixed a) cs ≡ map (fixed b) cs → map (fixed a) (cond t (s ∷ cs) cs) ≡ map (fixed b) (cond t (s ∷ cs) cs)
  next_same true s e cs h = ap₂ ◌∷◌ e h
  next_same false s e cs h = h

  filtered_same : (test : Custom → Bool) (cs : List Custom) → ((s : Custom) → Contains cs s → (x y : Indices) → s.data_under x ≡ s.data_under y) → map (fixed a) (filter test cs) ≡ map (fixed b) (filter test cs)
  filtered_same test [] plain = refl
  filtered_same test (s ∷ cs) plain = next_same (test s) s (fixed_same s (plain s (Contains-head s cs))) (filter test cs) (filtered_same test cs (λ t at. plain t (Contains-tail s t cs at)))

pub customs_same : (a b : Indices) (cs : List Custom) → ((s : Custom) → Contains cs s → (x y : Indices) → s.data_under x ≡ s.data_under y) → written_customs a cs ≡ written_customs b cs
customs_same a b cs plain = ap (λ l. map (fixed no_indices) (filter is_dylink cs) ++ l) (filtered_same a b (λ c. not (is_dylink c || is_debug_name c.name)) cs plain)

-- ---- fewer are chosen, where the others count as added

module _ {X : Type 0} (J K A : ℕ → Type 0) (r : ℕ → ℕ) (S : ℕ → X → X → Type 0) (xs ys : ℕ → Option X) where
  carries_fewer : ((i : ℕ) → K i → J i) → ((i : ℕ) → J i → K i ⊎ A (r i)) → Carries J A r S xs ys → Carries K A r S xs ys
  carries_fewer in_j split c = record {
    same = λ i k. c.same i (in_j i k);
    onto = λ j there. ⊎_elim
        (λ found. ⊎_elim (λ k. inl (found.0, k, found.2)) (λ a. inr (subst A found.2 a)) (split found.0 found.1))
        (λ added. inr added)
        (c.onto j there);
  }

-- ---- the whole way

none_new : (segment : Option ℕ) → segment ≡ None → (x : Item) → IsTheSegment segment x → ⊥
none_new segment none (Elements, j) is = not_there segment none (ap is_some is)
none_new segment none (Types, j) h = h
none_new segment none (Functions, j) h = h
none_new segment none (Tables, j) h = h
none_new segment none (Memories, j) h = h
none_new segment none (Tags, j) h = h
none_new segment none (Globals, j) h = h
none_new segment none (DataSegments, j) h = h

-- what is chosen stays as it was, and nothing else
pub record LeavesOnly (J : Item → Type 0) (v w : Abstract) : Type 0 where
  pub carried : Carried J (λ x. ⊥) unchanged v w
  pub left : (x : Item) → IsLive w x → J x
  pub types : (i : ℕ) → J (Types, i) → w.types i ≡ v.types i
  pub functions : (i : ℕ) → J (Functions, i) → w.functions i ≡ v.functions i
  pub tables : (i : ℕ) → J (Tables, i) → w.tables i ≡ v.tables i
  pub memories : (i : ℕ) → J (Memories, i) → w.memories i ≡ v.memories i
  pub tags : (i : ℕ) → J (Tags, i) → w.tags i ≡ v.tags i
  pub globals : (i : ℕ) → J (Globals, i) → w.globals i ≡ v.globals i
  pub elements : (i : ℕ) → J (Elements, i) → w.elements i ≡ v.elements i
  pub exports : w.exports ≡ v.exports
  pub customs : w.customs ≡ v.customs
  pub producers : w.producers ≡ v.producers
  pub named : (y : Subject) → IsSubjectOf J y → w.named y ≡ v.named y

module _ (c : Config) (m v : Abstract) (p : ParsedAs c m v) where
  -- a type that a handler of a chosen function needs
  pub record IsHandlerPlace (K : Item → Type 0) (x : Item) : Type 0 where
    pub comp : CompType ℕ
    pub place : ℕ
    pub needed : IsHandlerType K m comp
    pub is : x ≡ (Types, place)
    pub stands : IsLoneTypeAt comp p.all_types place

  -- K is chosen of the module that was read, J of the one in memory: what is chosen is there and stays chosen, with the types that handlers of
  -- chosen functions need, and nothing else is chosen in memory
  pub record AreChosen (K J : Item → Type 0) : Type 0 where
    pub there : (x : Item) → K x → IsLive m x
    pub stays : (x : Item) → K x → J x
    pub places : (f t : ℕ) → K (Functions, f) → Contains (v.handler_types f) t → J (Types, t)
    pub either : (x : Item) → J x → K x ⊎ IsHandlerPlace K x

module _ (c : Config) (m v w n : Abstract) (elements : ℕ → Option Element) (fs : List ℕ) (p : ParsedAs c m v) (plain : IsPlain m) (holds : Holds m) (K J : Item → Type 0) (chosen : AreChosen c m v p K J) (l : LeavesOnly J v w) (undeclared : AreUndeclared (IsLive w) w fs) (b : Between w (record w { elements = elements }) fs) (o : Written c (record w { elements = elements }) n) where
  -- with the declared segment
  abbrev pub after : Abstract
  after = record w { elements = elements }

  abbrev pub place : Renaming
  place = in_place c m v p

  abbrev pub whole_of : Renaming
  whole_of = record { numbers = o.renaming.numbers; imports = o.renaming.imports; locals = λ f x. o.renaming.locals f (p.renaming.locals f x) }

  abbrev pub segment : Option ℕ
  segment = option_map (o.renaming.numbers Elements) b.segment

  abbrev pub FinalOf : Item → Type 0
  FinalOf x = MayBeAdded K whole_of m n segment x

  live_m : (x : Item) → K x → IsLive m x
  live_m x k = chosen.there x k

  kept_v : (x : Item) → K x → J x
  kept_v x k = chosen.stays x k

  carried_after : Carried J (IsTheSegment b.segment) unchanged v after
  carried_after = carried_between w elements fs b J v l.carried

  -- ---- what is there in m and kept in v: what is kept in m, and types that were found for handlers

  abbrev Stays : Item → Type 0
  Stays x = IsLive m x × J x

  abbrev Added : Item → Type 0
  Added x = (Behind c m v p x × J x) ⊎ IsTheSegment b.segment x

  stays : (x : Item) → K x → Stays x
  stays x k = (live_m x k, kept_v x k)

  import_at : (i : ℕ) (x : Import) → m.imports i ≡ Some x → IsLive m x.item → v.imports i ≡ Some x
  import_at i x at h =
      let there = given (λ x y. y ≡ renamed_import place x) (m.imports i) (v.imports i) x ((carried_parsed c m v p).imports.same i (x, at, h)) at in
      there.1 ∙ ap Some (there.2 ∙ import_stays place (λ s i. refl) (λ i. refl) x)

  import_up : (i : ℕ) → IsImportOf (IsLive m) m i → IsImportOf J v i → IsImportOf Stays m i
  import_up i at kept =
      let is : kept.0 ≡ at.0 = some_same kept.0 at.0 (sym kept.1 ∙ import_at i at.0 at.1 at.2) in
      (at.0, at.1, (at.2, subst (λ (y : Import). J y.item) is kept.2))

  joins_1 : Joins (IsLive m) J Stays (Behind c m v p) (IsTheSegment b.segment) Added place unchanged m v
  joins_1 = record {
    down = λ space i j. j;
    up = λ space i live k. (i, (live, k), refl);
    import_down = λ i at. ((at.0, at.1, at.2.0), (at.0, import_at i at.0 at.1 at.2.0, at.2.1));
    import_up = λ i at kept. (i, import_up i at kept, refl);
    before = λ space j behind k. inl (behind, k);
    after = λ space j q. inr q;
  }

  carried_1 : Carried Stays Added (joined place unchanged) m after
  carried_1 = carried_joined (IsLive m) J Stays (Behind c m v p) (IsTheSegment b.segment) Added place unchanged m v after joins_1 (carried_parsed c m v p) carried_after

  live_after : (space : Space) (i : ℕ) → K (space, i) → IsLive after (space, i)
  live_after space i k = live_under Stays Added (joined place unchanged) m after carried_1 space i (stays (space, i) k)

  -- ---- types of handlers

  type_at : (t : ℕ) → J (Types, t) → (comp : CompType ℕ) → IsLoneTypeAt comp p.all_types t → IsTypeOf whole_of n comp (o.renaming.numbers Types t)
  type_at t k comp stands =
      let at : after.types t ≡ Some (alone t comp) = l.types t k ∙ p.types_made t ∙ stands.0 in
      let there = given (SameType (o.renaming.numbers Types) t) (after.types t) (n.types (o.renaming.numbers Types t)) (alone t comp) (o.carried.types.same t (ap is_some at)) at in
      (there.0, there.1, lone_type whole_of comp t there.0 stands.1 there.2)

  place_added : (t : ℕ) → J (Types, t) → IsHandlerPlace c m v p K (Types, t) → FinalOf (Types, o.renaming.numbers Types t)
  place_added t k h =
      let is : h.place ≡ t = sym (ap (λ (y : Item). y.1) h.is) in
      (h.comp, h.needed, type_at t k h.comp (subst (λ q. IsLoneTypeAt h.comp p.all_types q) is h.stands))

  type_splits : (t : ℕ) → J (Types, t) → K (Types, t) ⊎ FinalOf (Types, o.renaming.numbers Types t)
  type_splits t k = ⊎_elim (λ h. inl h) (λ h. inr (place_added t k h)) (chosen.either (Types, t) k)

  -- what is chosen of m stood there before
  not_behind : (x : Item) → Behind c m v p x → K x → ⊥
  not_behind (space, t) behind k =
      let live : IsSome (m.types t) = subst (λ s. IsLive m (s, t)) behind.0 (live_m (space, t) k) in
      let lt : t < length p.types = below_some c m v p plain holds t (slice_get p.types t) refl (subst IsSome (p.types_read t) live) in
      let le : length p.types ≤ t = behind.1 in
      omega arith

  behind_added : (t : ℕ) → Behind c m v p (Types, t) → J (Types, t) → FinalOf (Types, o.renaming.numbers Types t)
  behind_added t behind k = ⊎_elim
      (λ h. absurd (not_behind (Types, t) behind h))
      (λ added. added)
      (type_splits t k)

  added : (space : Space) (j : ℕ) → Added (space, j) → FinalOf (space, o.renaming.numbers space j)
  added Types j (inl h) = behind_added j h.0 h.1
  added Types j (inr none) = absurd none
  added Elements j (inl h) = let e : Elements ≡ Types = h.0.0 in absurd (cc)
  added Elements j (inr is) = ap (option_map (o.renaming.numbers Elements)) is
  added Functions j (inl h) = let e : Functions ≡ Types = h.0.0 in absurd (cc)
  added Functions j (inr none) = none
  added Tables j (inl h) = let e : Tables ≡ Types = h.0.0 in absurd (cc)
  added Tables j (inr none) = none
  added Memories j (inl h) = let e : Memories ≡ Types = h.0.0 in absurd (cc)
  added Memories j (inr none) = none
  added Tags j (inl h) = let e : Tags ≡ Types = h.0.0 in absurd (cc)
  added Tags j (inr none) = none
  added Globals j (inl h) = let e : Globals ≡ Types = h.0.0 in absurd (cc)
  added Globals j (inr none) = none
  added DataSegments j (inl h) = let e : DataSegments ≡ Types = h.0.0 in absurd (cc)
  added DataSegments j (inr none) = none

  -- ---- carried

  no_segment : o.segment ≡ None
  no_segment = declares_none (IsLive after) o.renaming after n o.declares.functions o.segment
      (λ f at. nothing_undeclared w elements fs b undeclared f ((o.declares.undeclared.are f).0 at)) o.declares.declared

  joins_2 : Joins Stays (IsLive after) Stays Added (IsTheSegment o.segment) FinalOf (joined place unchanged) o.renaming m after
  joins_2 = record {
    down = λ space i j. (j, live_under Stays Added (joined place unchanged) m after carried_1 space i j);
    up = λ space i k live. (i, k, refl);
    import_down = λ i k. (k, import_under Stays Added (joined place unchanged) m after carried_1 i k);
    import_up = λ i k live. (i, k, refl);
    before = λ space j h live. added space j h;
    after = λ space j q. absurd (none_new o.segment no_segment (space, j) q);
  }

  carried_2 : Carried Stays FinalOf whole_of m n
  carried_2 = carried_joined Stays (IsLive after) Stays Added (IsTheSegment o.segment) FinalOf (joined place unchanged) o.renaming m after n joins_2 carried_1 o.carried

  kept_m : (x : Item) → (x.0 ≡ Types → ⊥) → J x → K x
  kept_m x other k = ⊎_elim (λ h. h) (λ (h : IsHandlerPlace c m v p K x). absurd (other (ap (λ (y : Item). y.0) h.is))) (chosen.either x k)

  pub carried_of : Carried K FinalOf whole_of m n
  carried_of = record {
    types = carries_fewer _ _ _ _ _ _ _ (λ i k. stays (Types, i) k) (λ i j. type_splits i j.1) carried_2.types;
    imports = carries_fewer _ _ _ _ _ _ _ (λ i at. (at.0, at.1, stays at.0.item at.2)) (λ i at. inl (at.0, at.1, kept_m at.0.item (plain.imports i at.0 at.1) at.2.1)) carried_2.imports;
    functions = carries_fewer _ _ _ _ _ _ _ (λ i k. stays (Functions, i) k) (λ i j. inl (kept_m (Functions, i) (λ e. absurd (cc)) j.1)) carried_2.functions;
    tables = carries_fewer _ _ _ _ _ _ _ (λ i k. stays (Tables, i) k) (λ i j. inl (kept_m (Tables, i) (λ e. absurd (cc)) j.1)) carried_2.tables;
    memories = carries_fewer _ _ _ _ _ _ _ (λ i k. stays (Memories, i) k) (λ i j. inl (kept_m (Memories, i) (λ e. absurd (cc)) j.1)) carried_2.memories;
    tags = carries_fewer _ _ _ _ _ _ _ (λ i k. stays (Tags, i) k) (λ i j. inl (kept_m (Tags, i) (λ e. absurd (cc)) j.1)) carried_2.tags;
    globals = carries_fewer _ _ _ _ _ _ _ (λ i k. stays (Globals, i) k) (λ i j. inl (kept_m (Globals, i) (λ e. absurd (cc)) j.1)) carried_2.globals;
    elements = carries_fewer _ _ _ _ _ _ _ (λ i k. stays (Elements, i) k) (λ i j. inl (kept_m (Elements, i) (λ e. absurd (cc)) j.1)) carried_2.elements;
    data_segments = carries_fewer _ _ _ _ _ _ _ (λ i k. stays (DataSegments, i) k) (λ i j. inl (kept_m (DataSegments, i) (λ e. absurd (cc)) j.1)) carried_2.data_segments;
    imports_apart = λ i j at there e. carried_2.imports_apart i j (at.0, at.1, stays at.0.item at.2) (there.0, there.1, stays there.0.item there.2) e;
    apart = λ space other i j at there e. carried_2.apart space other i j (stays (space, i) at) (stays (space, j) there) e;
    exports = carried_2.exports;
    start = carried_2.start;
  }

  -- ---- functions, from m to w

  function_w : (i : ℕ) (k : K (Functions, i)) (f : Function) (at : m.functions i ≡ Some f) → w.functions i ≡ Some (function_of_v c m v p i f at).0
  function_w i k f at = l.functions i (kept_v (Functions, i) k) ∙ (function_of_v c m v p i f at).1

  body_on : (i : ℕ) → K (Functions, i) → (b : Body) → body_of m i ≡ Some b → (d : Body) × (body_of w i ≡ Some d) × SameBody place i b d
  body_on i k b at =
      let f = some_of (m.functions i) (live_m (Functions, i) k) in
      let g = function_of_v c m v p i f.0 f.1 in
      let found = kind_body_on place i f.0.kind g.0.kind g.2.kind b (sym (ap body_of_function f.1) ∙ at) in
      (found.0, ap body_of_function (function_w i k f.0 f.1) ∙ found.1, found.2)

  body_back : (i : ℕ) → K (Functions, i) → (d : Body) → body_of w i ≡ Some d → (b : Body) × (body_of m i ≡ Some b) × SameBody place i b d
  body_back i k d at =
      let f = some_of (m.functions i) (live_m (Functions, i) k) in
      let g = function_of_v c m v p i f.0 f.1 in
      let found = kind_body_back place i f.0.kind g.0.kind g.2.kind d (sym (ap body_of_function (function_w i k f.0 f.1)) ∙ at) in
      (found.0, ap body_of_function f.1 ∙ found.1, found.2)

  -- ---- order

  functions_in_order : (i j : ℕ) → K (Functions, i) → K (Functions, j) → ByImport m Functions i j → ByImport w Functions i j
  functions_in_order i j ki kj h =
      let f = some_of (m.functions i) (live_m (Functions, i) ki) in
      let f' = some_of (m.functions j) (live_m (Functions, j) kj) in
      let g = function_of_v c m v p i f.0 f.1 in
      let g' = function_of_v c m v p j f'.0 f'.1 in
      at_both (λ (x : Function). x.kind) (FunctionsByImport i j) (w.functions i) (w.functions j) g.0 g'.0 (function_w i ki f.0 f.1) (function_w j kj f'.0 f'.1)
      (kinds_in_order place (λ i. refl) i j f.0.kind f'.0.kind g.0.kind g'.0.kind g.2.kind g'.2.kind
      (both_at (λ (x : Function). x.kind) (FunctionsByImport i j) (m.functions i) (m.functions j) f.0 f'.0 f.1 f'.1 h))

  in_order_w : (space : Space) → (space ≡ Types → ⊥) → (i j : ℕ) → K (space, i) → K (space, j) → ByImport m space i j → ByImport after space i j
  in_order_w Types other i j ki kj h = absurd (other refl)
  in_order_w Functions other i j ki kj h = functions_in_order i j ki kj h
  in_order_w Tables other i j ki kj h = both_same (λ (x : Table). x.origin) (OriginsInOrder i j) (m.tables i) (m.tables j) (w.tables i) (w.tables j)
      (l.tables i (kept_v (Tables, i) ki) ∙ tables_stay c m v p i) (l.tables j (kept_v (Tables, j) kj) ∙ tables_stay c m v p j) h
  in_order_w Memories other i j ki kj h = both_same (λ (x : Memory). x.origin) (OriginsInOrder i j) (m.memories i) (m.memories j) (w.memories i) (w.memories j)
      (l.memories i (kept_v (Memories, i) ki) ∙ memories_stay c m v p i) (l.memories j (kept_v (Memories, j) kj) ∙ memories_stay c m v p j) h
  in_order_w Tags other i j ki kj h = both_same (λ (x : Tag). x.origin) (OriginsInOrder i j) (m.tags i) (m.tags j) (w.tags i) (w.tags j)
      (l.tags i (kept_v (Tags, i) ki) ∙ tags_stay c m v p i) (l.tags j (kept_v (Tags, j) kj) ∙ tags_stay c m v p j) h
  in_order_w Globals other i j ki kj h = both_same (λ (x : Global). x.origin) (OriginsInOrder i j) (m.globals i) (m.globals j) (w.globals i) (w.globals j)
      (l.globals i (kept_v (Globals, i) ki) ∙ globals_stay c m v p i) (l.globals j (kept_v (Globals, j) kj) ∙ globals_stay c m v p j) h
  in_order_w Elements other i j ki kj h = h
  in_order_w DataSegments other i j ki kj h = h

  pub items_rise : (space : Space) → (space ≡ Types → ⊥) → (i j : ℕ) → K (space, i) → K (space, j) → ByIndex m space i j → whole_of.numbers space i < whole_of.numbers space j
  items_rise space other i j ki kj h =
      o.rises.items space other i j (live_after space i ki) (live_after space j kj)
      (in_order_w space other i j ki kj (plain.in_order space other i j (live_m (space, i) ki) (live_m (space, j) kj) h))

  import_after : (i : ℕ) → IsImportOf K m i → IsImportOf (IsLive after) after i
  import_after i at = import_under Stays Added (joined place unchanged) m after carried_1 i (at.0, at.1, stays at.0.item at.2)

  pub imports_rise : (i j : ℕ) → IsImportOf K m i → IsImportOf K m j → i < j → whole_of.imports i < whole_of.imports j
  imports_rise i j at there lt = o.rises.imports i j (import_after i at) (import_after j there) lt

  -- ---- undeclared functions

  kept_w : (x : Item) → (x.0 ≡ Types → ⊥) → IsLive w x → K x
  kept_w x other h = kept_m x other (l.left x h)

  live_w : (space : Space) (i : ℕ) → K (space, i) → IsLive w (space, i)
  live_w space i k = live_under J (λ x. ⊥) unchanged v w l.carried space i (kept_v (space, i) k)

  exports_w : w.exports ≡ m.exports
  exports_w = l.exports ∙ exports_same c m v p

  globals_w : (i : ℕ) → K (Globals, i) → w.globals i ≡ m.globals i
  globals_w i k = l.globals i (kept_v (Globals, i) k) ∙ globals_stay c m v p i

  elements_w : (i : ℕ) → K (Elements, i) → w.elements i ≡ m.elements i
  elements_w i k = l.elements i (kept_v (Elements, i) k) ∙ elements_stay c m v p i

  in_body_on : (f : ℕ) → IsRefInBody K m f → IsRefInBody (IsLive w) w f
  in_body_on f (i, b, k, at, has) =
      let there = body_on i k b at in (
        i,
        there.0,
        live_w Functions i k,
        there.1,
        subst (λ (ops : List Op). Contains ops (ref_func f)) (sym there.2.operators) (refs_on place (λ s i. refl) (λ i. refl) (place.locals i) f b.operators has),
      )

  in_body_back : (f : ℕ) → IsRefInBody (IsLive w) w f → IsRefInBody K m f
  in_body_back f (i, d, h, at, has) =
      let k = kept_w (Functions, i) (λ e. absurd (cc)) h in
      let there = body_back i k d at in (
        i,
        there.0,
        k,
        there.1,
        refs_back place (λ s i. refl) (λ i. refl) (place.locals i) f there.0.operators (subst (λ (ops : List Op). Contains ops (ref_func f)) there.2.operators has),
      )

  in_global_on : (f : ℕ) → IsRefInGlobal K m f → IsRefInGlobal (IsLive w) w f
  in_global_on f (i, g, ops, k, at, made, has) = (i, g, ops, live_w Globals i k, globals_w i k ∙ at, made, has)

  in_global_back : (f : ℕ) → IsRefInGlobal (IsLive w) w f → IsRefInGlobal K m f
  in_global_back f (i, g, ops, h, at, made, has) = let k = kept_w (Globals, i) (λ e. absurd (cc)) h in (i, g, ops, k, sym (globals_w i k) ∙ at, made, has)

  undeclared_on : (f : ℕ) → IsUndeclared K m f → IsUndeclared (IsLive w) w f
  undeclared_on f u = record {
    named = ⊎_elim (λ h. inl (in_body_on f h)) (λ h. inr (in_global_on f h)) u.named;
    not_exported = λ e at is. u.not_exported e (subst (λ es. Contains es e) exports_w at) is;
    not_listed = λ i e h at lists. let k = kept_w (Elements, i) (λ e. absurd (cc)) h in u.not_listed i e k (sym (elements_w i k) ∙ at) lists;
  }

  undeclared_back : (f : ℕ) → IsUndeclared (IsLive w) w f → IsUndeclared K m f
  undeclared_back f u = record {
    named = ⊎_elim (λ h. inl (in_body_back f h)) (λ h. inr (in_global_back f h)) u.named;
    not_exported = λ e at is. u.not_exported e (subst (λ es. Contains es e) (sym exports_w) at) is;
    not_listed = λ i e k at lists. u.not_listed i e (live_w Elements i k) (elements_w i k ∙ at) lists;
  }

  segment_whole : (gs : List ℕ) → SegmentIs elements gs b.segment → HasDeclaredSegment K whole_of m n gs segment
  segment_whole [] is = ap (option_map (o.renaming.numbers Elements)) is
  segment_whole (f ∷ gs) (id, here, at) =
      let there = given (λ x y. y ≡ renamed_element o.renaming x) (elements id) (n.elements (o.renaming.numbers Elements id)) (record { kind = DeclaredElements; items = ListedFunctions (f ∷ gs) }) (o.carried.elements.same id (ap is_some at)) at in (
        o.renaming.numbers Elements id,
        ap (option_map (o.renaming.numbers Elements)) here,
        record {
          is = there.1 ∙ ap Some there.2;
          last = λ i k. o.rises.items Elements (λ e. absurd (cc)) i id (live_after Elements i k) (ap is_some at) (b.last i id (live_w Elements i k) here);
        },
      )

  pub declares_whole : Declares K whole_of m n segment
  declares_whole = record {
    functions = fs;
    undeclared = record {
      rising = undeclared.rising;
      are = λ f. (λ at. undeclared_back f ((undeclared.are f).0 at), λ u. (undeclared.are f).1 (undeclared_on f u));
    };
    declared = segment_whole fs b.is;
  }

  -- ---- handlers

  pub handlers_whole : (comp : CompType ℕ) → IsHandlerType K m comp → (j : ℕ) × IsTypeOf whole_of n comp j
  handlers_whole comp (f, body, k, at, has) =
      let placed : Placed (handlers_of m body) p.all_types (v.handler_types f) = subst (λ x. Placed (handlers_by m x) p.all_types (v.handler_types f)) at (places_of c m v p plain holds f (live_m (Functions, f) k)) in
      let found = placed.there comp has in
      (o.renaming.numbers Types found.0, type_at found.0 (chosen.places f found.0 k found.1) comp found.2)

  -- ---- names

  name_after : (y : Subject) → IsSubjectOf J y → own_name after y ≡ own_name v y
  name_after y h = ap last_name (l.named y h)

  only_in : (y : Item) → IsNoType y → IsSome (own_name n (AnItem y)) → AreNamed (own_name after) (IsLive after) o.renaming after n → (space : Space) (i : ℕ) → IsLive after (space, i) → y ≡ renamed o.renaming (space, i) → K (space, i)
  only_in y no_type there h Types i live is = absurd (subst IsNoType is no_type)
  only_in y no_type there h Elements i live is = ⊎_elim
      (λ at. not_there (own_name n (AnItem y)) (ap (λ z. own_name n (AnItem z)) is ∙ h.items (Elements, i) live tt ∙ b.unnamed i at) there)
      (λ other. kept_w (Elements, i) (λ e. absurd (cc)) (subst IsSome (b.others i other) live))
      (is_segment b.segment i)
  only_in y no_type there h Functions i live is = kept_w (Functions, i) (λ e. absurd (cc)) live
  only_in y no_type there h Tables i live is = kept_w (Tables, i) (λ e. absurd (cc)) live
  only_in y no_type there h Memories i live is = kept_w (Memories, i) (λ e. absurd (cc)) live
  only_in y no_type there h Tags i live is = kept_w (Tags, i) (λ e. absurd (cc)) live
  only_in y no_type there h Globals i live is = kept_w (Globals, i) (λ e. absurd (cc)) live
  only_in y no_type there h DataSegments i live is = kept_w (DataSegments, i) (λ e. absurd (cc)) live

  abbrev OldItem : Item → Type 0
  OldItem y = (x : Item) × IsLive after x × (y ≡ renamed o.renaming x)

  only_item : (y : Item) → IsNoType y → IsSome (own_name n (AnItem y)) → AreNamed (own_name after) (IsLive after) o.renaming after n → OldItem y → (x : Item) × K x × (y ≡ renamed whole_of x)
  only_item y no_type there h (x, live, is) = (x, only_in y no_type there h x.0 x.1 live is, is)

  only_named : AreNamed (own_name after) (IsLive after) o.renaming after n → (y : Subject) → IsSome (own_name n y) → MayBeNamed (IsLive after) o.renaming after y → MayBeNamed K whole_of m y
  only_named h TheModule there may = tt
  only_named h (AnItem (Types, i)) there may = tt
  only_named h (AnItem (Functions, i)) there may = only_item (Functions, i) tt there h may
  only_named h (AnItem (Tables, i)) there may = only_item (Tables, i) tt there h may
  only_named h (AnItem (Memories, i)) there may = only_item (Memories, i) tt there h may
  only_named h (AnItem (Tags, i)) there may = only_item (Tags, i) tt there h may
  only_named h (AnItem (Globals, i)) there may = only_item (Globals, i) tt there h may
  only_named h (AnItem (Elements, i)) there may = only_item (Elements, i) tt there h may
  only_named h (AnItem (DataSegments, i)) there may = only_item (DataSegments, i) tt there h may
  only_named h (ALocal g y) there (f, d, x, live, at, used, is_f, is_x) =
      let k = kept_w (Functions, f) (λ e. absurd (cc)) live in
      let old = body_back f k d at in
      let found = from_map (place.locals f) x (used_locals old.0) (subst (λ used. Contains used x) (used_follow place f old.0 d old.2) used) in
      (f, old.0, found.0, k, old.1, found.1, is_f, is_x ∙ ap (o.renaming.locals f) (sym found.2))

  names_on : AreNamed (own_name after) (IsLive after) o.renaming after n → AreNamed (name_of c m) K whole_of m n
  names_on h = record {
    module_name = h.module_name ∙ name_after TheModule tt ∙ p.own;
    items = λ x k no_type. h.items x (live_after x.0 x.1 k) no_type ∙ name_after (AnItem x) (kept_v x k) ∙ p.items x (live_m x k);
    locals = λ f b x k at used.
        let there = body_on f k b at in
        let used_there : IsUsed there.0 (place.locals f x) = subst (λ used. Contains used (place.locals f x)) (sym (used_follow place f b there.0 there.2)) (Contains-map (place.locals f) x (used_locals b) used) in
        h.locals f there.0 (place.locals f x) (live_after Functions f k) there.1 used_there
        ∙ name_after (ALocal f (place.locals f x)) (kept_v (Functions, f) k)
        ∙ p.locals f b x at (holds.indices.locals f b x at used);
    only = λ y there. only_named h y there (h.only y there);
  }

  pub names_either : (t : Bool) → WritesNames t (own_name after) (IsLive after) o.renaming after n → WritesNames t (name_of c m) K whole_of m n
  names_either true h = names_on h
  names_either false h = h

  -- ---- all

  abbrev pub out_of : OutOf K c m n
  out_of = record {
    renaming = whole_of;
    segment = segment;
    carried = carried_of;
    rises = record { items = items_rise; imports = imports_rise };
    declares = declares_whole;
    handlers = handlers_whole;
    names = names_either c.writes_names o.names;
    producers = o.producers ∙ ap (if_written c.writes_producers) (l.producers ∙ p.producers);
    customs = o.customs ∙ ap (written_customs o.indices) (l.customs ∙ p.customs) ∙ customs_same o.indices no_indices m.customs plain.customs;
  }

  -- ---- where nothing else is chosen in memory, and nothing is declared, nothing is added

  module _ (only : (x : Item) → J x → K x) (none : b.segment ≡ None) (More : Item → Type 0) where
    none_added : (x : Item) → Added x → ⊥
    none_added x (inl h) = not_behind x h.0 (only x h.1)
    none_added x (inr is) = none_new b.segment none x is

    joins_only : Joins Stays (IsLive after) K Added (IsTheSegment o.segment) More (joined place unchanged) o.renaming m after
    joins_only = record {
      down = λ space i k. (stays (space, i) k, live_after space i k);
      up = λ space i s live. (i, only (space, i) s.1, refl);
      import_down = λ i at. ((at.0, at.1, stays at.0.item at.2), import_after i at);
      import_up = λ i s live. (i, (s.0, s.1, only s.0.item s.2.1), refl);
      before = λ space j h live. absurd (none_added (space, j) h);
      after = λ space j q. absurd (none_new o.segment no_segment (space, j) q);
    }

    pub carried_only : Carried K More whole_of m n
    carried_only = carried_joined Stays (IsLive after) K Added (IsTheSegment o.segment) More (joined place unchanged) o.renaming m after n joins_only carried_1 o.carried

-- ---- what gc keeps is chosen so, and it leaves only that

module _ (c : Config) (m v : Abstract) (p : ParsedAs c m v) (plain : IsPlain m) (holds : Holds m) where
  kept_places : (f t : ℕ) → Kept m (Functions, f) → Contains (v.handler_types f) t → Kept v (Types, t)
  kept_places f t (inl h) at = inl (place_reached c m v p plain holds f t h at)
  kept_places f t (inr s) at = let e : Functions ≡ Memories = ap (λ (y : Item). y.0) s.is in absurd (cc)

  pub kept_chosen : AreChosen c m v p (Kept m) (Kept v)
  kept_chosen = record {
    there = λ x k. kept_live c m v p plain holds x k;
    stays = λ x k. kept_on c m v p plain holds x k;
    places = kept_places;
    either = λ x k. ⊎_elim
        (λ h. inl h)
        (λ (h : IsPlace c m v p plain holds x). inr (record { comp = h.comp; place = h.place; needed = (h.function, h.body, inl h.reached, h.at, h.needed); is = h.is; stands = h.stands }))
        (kept_either c m v p plain holds x k);
  }

  pub kept_left : (w : Abstract) → Collected v w → LeavesOnly (Kept v) v w
  kept_left w l = record {
    carried = carried_collected v w l (live_v c m v p plain holds) (initialised c m v p);
    left = left_is_kept v w l;
    types = l.types.kept;
    functions = l.functions.kept;
    tables = l.tables.kept;
    memories = l.memories.kept;
    tags = l.tags.kept;
    globals = l.globals.kept;
    elements = l.elements.kept;
    exports = l.exports;
    customs = l.customs;
    producers = l.producers;
    named = l.named;
  }

pub plain_steps_come_out : (c : Config) (m u n : Abstract) → IsPlain m → Holds m → BringsTo c m u → IsWrittenAs c u n → Out c m n
plain_steps_come_out c m u n plain holds brings written =
    let v : Abstract = brings.module_parsed in
    let w : Abstract = brings.module_kept in
    let p = brings.parsed in
    let b = between w u brings.leaves in
    out_of c m v w n u.elements brings.leaves.functions p plain holds (Kept m) (Kept v)
    (kept_chosen c m v p plain holds) (kept_left c m v p plain holds w brings.collected) brings.leaves.undeclared
    (subst (λ x. Between w x brings.leaves.functions) b.same b)
    (subst (λ x. Written c x n) b.same written.written)
