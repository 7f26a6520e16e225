-- What gc leaves of what was parsed names nothing dead.
use Rattle.std.proofs.Common.{◌≡◌, ℕ, zero, suc, ◌+◌, ◌<◌, ◌≤◌, List, [], ◌∷◌, ◌++◌, length, map, refl, sym, ap, ap₂, ◌∙◌, subst, arith, inl, inr, ◌⊎◌, ⊎_elim, length-append}
use Rattle.std.specs.Prelude.{Option, Some, None, IsSome, Contains, flat_map, option_map, slice_get}
use Rattle.std.proofs.lemmas.Option.{slice_get_within}
use Rattle.walrus_base.specs.Types.{CompType, heap_names, val_names, comp_names, sub_names}
use Rattle.walrus_base.specs.Operators.{Types, Functions, Tables, Memories, Tags, Globals, Elements, DataSegments, Item, type_item, function_item, names_of}
use Rattle.walrus_model.specs.Abstract.{Abstract, TypeDef, Body, Table, Memory, Global, ElementKind, PassiveElements, DeclaredElements, ActiveElements, ElementItems, ListedFunctions, Expressions, Element, DataKind, PassiveData, ActiveData, DataSegment}
use Rattle.walrus_model.specs.Carried.{Carried}
use Rattle.walrus_model.specs.Config.{Config}
use Rattle.walrus_model.specs.Kept.{Kept}
use Rattle.walrus_model.specs.Live.{IsLive}
use Rattle.walrus_model.specs.Names.{body_of}
use Rattle.walrus_model.specs.Pipeline.{Collected}
use Rattle.walrus_model.specs.Reached.{root, step}
use Rattle.walrus_model.specs.Refers.{named_by, written_in, IsUsed, type_names, function_names, memory_names, table_names, tag_names, global_names, element_kind_names, element_item_names, element_names, data_kind_names, data_names}
use Rattle.walrus_model.specs.Renaming.{Renaming, renamed, renamed_table, renamed_tag, renamed_global, renamed_element_kind, renamed_element_items, renamed_element, renamed_data_kind, renamed_data}
use Rattle.walrus_model.specs.Roots.{exported, start}
use Rattle.walrus_model.specs.Rules.{Holds}
use Rattle.walrus_model.specs.Same.{BothAnd}
use Rattle.walrus_theorem.specs.Chain.{IsBehind, ParsedAs, alone, TypeIsFoundOrAdded, Found, Added, AreFoundOrAdded, NoMore, AndThen, handlers_by, AddsHandlers, NoFunction, AndThose}
use Rattle.walrus_theorem.specs.Once.{Premises}
use Rattle.walrus_theorem.specs.OneRun.{HandlersLive, KeptLives}
use Rattle.walrus_theorem.proofs.HandlersLive.{handlers_live}
use Rattle.walrus_theorem.proofs.JoinedSteps.{used_back}
use Rattle.walrus_base.proofs.Lists.{map-itself, Contains-head, Contains-tail, Contains-uncons, Contains-none, Contains-map, Contains-append_1, Contains-append_2}
use Rattle.walrus_theorem.proofs.ManyItems.{second}
use Rattle.walrus_model.proofs.OpsFollow.{heap_items, val_items, const_follows, consts_follow, initialiser_follows}
use Rattle.walrus_model.proofs.Orders.{is_some_by}
use Rattle.walrus_base.proofs.Standing.{some_of}
use Rattle.walrus_theorem.proofs.Plain.{Twins, from_w, read_from, kept_item}
use Rattle.walrus_theorem.proofs.Straight.{straight, moved, carried, not_there, functions_name}
use Rattle.walrus_theorem.proofs.Things.{some_same}
use Rattle.walrus_base.proofs.Lookups.{there as slice_there}

-- ---- items that move no number name the same

module _ (l : ℕ → ℕ → ℕ) where
  abbrev r : Renaming
  r = straight l

  stays : (xs : List Item) → map (renamed r) xs ≡ xs
  stays xs = map-itself (renamed r) xs (λ x. refl)

  table_same : (t : Table) → table_names (renamed_table r t) ≡ table_names t
  table_same t = ap₂ ◌++◌ (heap_items r t.ty.element.heap ∙ stays (map type_item (heap_names t.ty.element.heap))) (initialiser_follows r t.initialiser ∙ stays (named_by names_of t.initialiser))

  global_same : (g : Global) → global_names (renamed_global r g) ≡ global_names g
  global_same g = ap₂ ◌++◌ (val_items r g.ty.value ∙ stays (map type_item (val_names g.ty.value))) (initialiser_follows r g.initialiser ∙ stays (named_by names_of g.initialiser))

  element_kind_same : (k : ElementKind) → element_kind_names (renamed_element_kind r k) ≡ element_kind_names k
  element_kind_same PassiveElements = refl
  element_kind_same DeclaredElements = refl
  element_kind_same (ActiveElements table offset) = ap (λ xs. (Tables, table) ∷ xs) (const_follows r offset ∙ stays (names_of offset))

  element_items_same : (x : ElementItems) → element_item_names (renamed_element_items r x) ≡ element_item_names x
  element_items_same (ListedFunctions fs) = ap (map function_item) (map-itself (λ (f : ℕ). f) fs (λ f. refl))
  element_items_same (Expressions ty es) = ap₂ ◌++◌ (heap_items r ty.heap ∙ stays (map type_item (heap_names ty.heap))) (consts_follow r es ∙ stays (flat_map names_of es))

  element_same : (e : Element) → element_names (renamed_element r e) ≡ element_names e
  element_same e = ap₂ ◌++◌ (element_kind_same e.kind) (element_items_same e.items)

  data_kind_same : (k : DataKind) → data_kind_names (renamed_data_kind r k) ≡ data_kind_names k
  data_kind_same PassiveData = refl
  data_kind_same (ActiveData memory offset) = ap (λ xs. (Memories, memory) ∷ xs) (const_follows r offset ∙ stays (names_of offset))

  data_same : (d : DataSegment) → data_names (renamed_data r d) ≡ data_names d
  data_same d = data_kind_same d.kind

look_same : {X : Type 0} (names : X → List Item) (g : X → X) (o q : Option X) → ((x : X) → names (g x) ≡ names x) → (IsSome o → BothAnd (λ x y. y ≡ g x) o q) → (IsSome q → IsSome o) → named_by names q ≡ named_by names o
look_same names g None None law there back = refl
look_same {X} names g None (Some y) law there back = not_there {X = X} None refl (back refl)
look_same names g (Some x) None law there back = absurd (there refl)
look_same names g (Some x) (Some y) law there back = ap names (there refl) ∙ law x

-- ---- types name types below their count

abbrev Named : TypeDef → ℕ → Type 0
Named x t = Contains x.group t ⊎ Contains (sub_names x.sub) t

abbrev Closed : List TypeDef → Type 0
Closed ts = (i : ℕ) (x : TypeDef) → slice_get ts i ≡ Some x → (t : ℕ) → Named x t → t < length ts

at_append : {X : Type 0} (xs : List X) (z : X) (i : ℕ) (x : X) → slice_get (xs ++ z ∷ []) i ≡ Some x → (slice_get xs i ≡ Some x) ⊎ (z ≡ x)
at_append [] z zero x e = inr (some_same z x e)
at_append [] z (suc i) x e = absurd (cc)
at_append (y ∷ ys) z zero x e = inl e
at_append (y ∷ ys) z (suc i) x e = at_append ys z i x e

module _ (count : ℕ) where
  abbrev Below : CompType ℕ → Type 0
  Below comp = (t : ℕ) → Contains (comp_names comp) t → t < count

  abbrev Good : List TypeDef → Type 0
  Good ts = (count ≤ length ts) × Closed ts

  one_alone : (place : ℕ) (comp : CompType ℕ) (size t : ℕ) → Below comp → count ≤ size → place < size → Named (alone place comp) t → t < size
  one_alone place comp size t below le lt (inl at) = ⊎_elim (λ (e : place ≡ t). subst (λ n. n < size) e lt) (λ none. absurd (Contains-none t none)) (Contains-uncons place t [] at)
  one_alone place comp size t below le lt (inr at) = let h : t < count = below t at in omega (arith, h, le)

  good_one : (comp : CompType ℕ) → Below comp → (old new : List TypeDef) (p : ℕ) → TypeIsFoundOrAdded comp old new p → Good old → Good new
  good_one comp below old new p (Found s f e) good = subst Good (sym e) good
  good_one comp below old new p (Added away at is) good = subst Good (sym is) (le, closed)
    where
      long : length (old ++ alone p comp ∷ []) ≡ length old + 1
      long = length-append old (alone p comp ∷ [])

      le : count ≤ length (old ++ alone p comp ∷ [])
      le = let h : count ≤ length old = good.0 in omega (arith, h, long)

      closed : Closed (old ++ alone p comp ∷ [])
      closed i x e t named = ⊎_elim
          (λ (h : slice_get old i ≡ Some x). let lt : t < length old = good.1 i x h t named in omega (arith, lt, long))
          (λ (h : alone p comp ≡ x). one_alone p comp (length (old ++ alone p comp ∷ [])) t below le (omega (arith, at, long)) (subst (λ y. Named y t) (sym h) named))
          (at_append old (alone p comp) i x e)

  good_all : (comps : List (CompType ℕ)) (old new : List TypeDef) (ps : List ℕ) → ((comp : CompType ℕ) → Contains comps comp → Below comp) → AreFoundOrAdded comps old new ps → Good old → Good new
  good_all _ _ _ _ below (NoMore types) good = good
  good_all _ _ _ _ below (AndThen comp comps old middle new p ps h k) good = good_all comps middle new ps (λ d at. below d (Contains-tail comp d comps at)) k (good_one comp (below comp (Contains-head comp comps)) old middle p h good)

  good_handlers : (m : Abstract) (places : ℕ → List ℕ) (fs : List ℕ) (old new : List TypeDef) → ((f : ℕ) (comp : CompType ℕ) → Contains (handlers_by m (body_of m f)) comp → Below comp) → AddsHandlers m places fs old new → Good old → Good new
  good_handlers m places _ _ _ below (NoFunction types) good = good
  good_handlers m places _ _ _ below (AndThose f fs old middle new h k) good = good_handlers m places fs middle new below k (good_all (handlers_by m (body_of m f)) old middle (places f) (below f) h good)

un_item : (ts : List ℕ) (y : Item) → Contains (map type_item ts) y → (t : ℕ) × Contains ts t × (type_item t ≡ y)
un_item [] y at = absurd (Contains-none y at)
un_item (t ∷ ts) y at = ⊎_elim
    (λ (e : type_item t ≡ y). (t, Contains-head t ts, e))
    (λ (rest : Contains (map type_item ts) y). let u = un_item ts y rest in (u.0, Contains-tail t u.0 ts u.1, u.2))
    (Contains-uncons (type_item t) y (map type_item ts) at)

un_append : (xs ys : List Item) (y : Item) → Contains (xs ++ ys) y → Contains xs y ⊎ Contains ys y
un_append [] ys y at = inr at
un_append (x ∷ xs) ys y at = ⊎_elim
    (λ (e : x ≡ y). inl (subst (Contains (x ∷ xs)) e (Contains-head x xs)))
    (λ (rest : Contains (xs ++ ys) y). ⊎_elim (λ h. inl (Contains-tail x y xs h)) (λ h. inr h) (un_append xs ys y rest))
    (Contains-uncons x y (xs ++ ys) at)

module _ (handlers : HandlersLive) (c : Config) (m v w : Abstract) (holds : Holds m) (p : ParsedAs c m v) (k : Collected v w) where
  abbrev q : Carried (IsLive m) (IsBehind (length p.types)) (straight (moved c m v p)) m v
  q = carried c m v p

  live_v : (x : Item) → IsLive m x → IsLive v x
  live_v (Types, i) h = second _ (m.types i) (v.types i) h (q.types.same i h)
  live_v (Functions, i) h = second _ (m.functions i) (v.functions i) h (q.functions.same i h)
  live_v (Tables, i) h = second _ (m.tables i) (v.tables i) h (q.tables.same i h)
  live_v (Memories, i) h = second _ (m.memories i) (v.memories i) h (q.memories.same i h)
  live_v (Tags, i) h = second _ (m.tags i) (v.tags i) h (q.tags.same i h)
  live_v (Globals, i) h = second _ (m.globals i) (v.globals i) h (q.globals.same i h)
  live_v (Elements, i) h = second _ (m.elements i) (v.elements i) h (q.elements.same i h)
  live_v (DataSegments, i) h = second _ (m.data_segments i) (v.data_segments i) h (q.data_segments.same i h)

  live_w : (x : Item) → Kept v x → IsLive v x → IsLive w x
  live_w (Types, i) z h = subst (λ o. IsSome o) (sym (k.types.kept i z)) h
  live_w (Functions, i) z h = subst (λ o. IsSome o) (sym (k.functions.kept i z)) h
  live_w (Tables, i) z h = subst (λ o. IsSome o) (sym (k.tables.kept i z)) h
  live_w (Memories, i) z h = subst (λ o. IsSome o) (sym (k.memories.kept i z)) h
  live_w (Tags, i) z h = subst (λ o. IsSome o) (sym (k.tags.kept i z)) h
  live_w (Globals, i) z h = subst (λ o. IsSome o) (sym (k.globals.kept i z)) h
  live_w (Elements, i) z h = subst (λ o. IsSome o) (sym (k.elements.kept i z)) h
  live_w (DataSegments, i) z h = subst (λ o. IsSome o) (sym (k.data_segments.kept i z)) h

  -- types

  type_below : (t : ℕ) → IsLive m (Types, t) → t < length p.types
  type_below t h = let x = some_of (m.types t) h in slice_get_within p.types t x.0 (sym (p.types_read t) ∙ x.1)

  first_closed : Closed p.types
  first_closed i x e t (inl at) = type_below t (holds.indices.written (Types, i) (type_item t) (subst (λ o. Contains (named_by type_names o) (type_item t)) (sym (p.types_read i ∙ e)) (Contains-append_1 (type_item t) (map type_item x.group) (map type_item (sub_names x.sub)) (Contains-map type_item t x.group at))))
  first_closed i x e t (inr at) = type_below t (holds.indices.written (Types, i) (type_item t) (subst (λ o. Contains (named_by type_names o) (type_item t)) (sym (p.types_read i ∙ e)) (Contains-append_2 (type_item t) (map type_item x.group) (map type_item (sub_names x.sub)) (Contains-map type_item t (sub_names x.sub) at))))

  below_by : (f : ℕ) (o : Option Body) → body_of m f ≡ o → (comp : CompType ℕ) → Contains (handlers_by m o) comp → Below (length p.types) comp
  below_by f None e comp at t has = absurd (Contains-none comp at)
  below_by f (Some b) e comp at t has = type_below t (handlers m holds f b e comp at t has)

  all_good : Good (length p.types) p.all_types
  all_good = good_handlers (length p.types) m v.handler_types _ p.types p.all_types (λ f comp at. below_by f (body_of m f) refl comp at) p.handlers (omega arith, first_closed)

  type_there : (t : ℕ) → t < length p.all_types → IsLive v (Types, t)
  type_there t lt = subst (λ o. IsSome o) (sym (p.types_made t)) (slice_there p.all_types t lt)

  of_type : (i : ℕ) (o : Option TypeDef) → slice_get p.all_types i ≡ o → (y : Item) → Contains (named_by type_names o) y → IsLive v y
  of_type i None e y at = absurd (Contains-none y at)
  of_type i (Some x) e y at = ⊎_elim
      (λ h. let t = un_item x.group y h in subst (IsLive v) t.2 (type_there t.0 (all_good.1 i x e t.0 (inl t.1))))
      (λ h. let t = un_item (sub_names x.sub) y h in subst (IsLive v) t.2 (type_there t.0 (all_good.1 i x e t.0 (inr t.1))))
      (un_append (map type_item x.group) (map type_item (sub_names x.sub)) y at)

  -- all that is written is there

  names_there : (x y : Item) → Contains (written_in m x) y → IsLive v y
  names_there x y at = live_v y (holds.indices.written x y at)

  live_named : (x y : Item) → Contains (written_in v x) y → IsLive v y
  live_named (Types, i) y at = of_type i (slice_get p.all_types i) refl y (subst (λ o. Contains (named_by type_names o) y) (p.types_made i) at)
  live_named (Functions, i) y at = names_there (Functions, i) y (subst (λ l. Contains l y) (functions_name c m v p i) at)
  live_named (Tables, i) y at = names_there (Tables, i) y (subst (λ l. Contains l y) (look_same table_names _ (m.tables i) (v.tables i) (table_same (moved c m v p)) (q.tables.same i) (read_from c m v w p k holds _ _ _ m.tables v.tables q.tables (λ j a. cc) i)) at)
  live_named (Memories, i) y at = absurd (nothing (v.memories i) at)
    where
      nothing : (o : Option Memory) → Contains (named_by memory_names o) y → ⊥
      nothing None h = Contains-none y h
      nothing (Some x) h = Contains-none y h
  live_named (Tags, i) y at = names_there (Tags, i) y (subst (λ l. Contains l y) (look_same tag_names (renamed_tag (straight (moved c m v p))) (m.tags i) (v.tags i) (λ x. refl) (q.tags.same i) (read_from c m v w p k holds _ _ _ m.tags v.tags q.tags (λ j a. cc) i)) at)
  live_named (Globals, i) y at = names_there (Globals, i) y (subst (λ l. Contains l y) (look_same global_names _ (m.globals i) (v.globals i) (global_same (moved c m v p)) (q.globals.same i) (read_from c m v w p k holds _ _ _ m.globals v.globals q.globals (λ j a. cc) i)) at)
  live_named (Elements, i) y at = names_there (Elements, i) y (subst (λ l. Contains l y) (look_same element_names _ (m.elements i) (v.elements i) (element_same (moved c m v p)) (q.elements.same i) (read_from c m v w p k holds _ _ _ m.elements v.elements q.elements (λ j a. cc) i)) at)
  live_named (DataSegments, i) y at = names_there (DataSegments, i) y (subst (λ l. Contains l y) (look_same data_names _ (m.data_segments i) (v.data_segments i) (data_same (moved c m v p)) (q.data_segments.same i) (read_from c m v w p k holds _ _ _ m.data_segments v.data_segments q.data_segments (λ j a. cc) i)) at)

  -- what is written in what is left

  some_written : {X : Type 0} (names : X → List Item) (o : Option X) (y : Item) → Contains (named_by names o) y → IsSome o
  some_written names None y at = absurd (Contains-none y at)
  some_written names (Some x) y at = refl

  live_x : (x y : Item) → Contains (written_in w x) y → IsLive w x
  live_x (Types, i) y at = some_written type_names (w.types i) y at
  live_x (Functions, i) y at = some_written function_names (w.functions i) y at
  live_x (Tables, i) y at = some_written table_names (w.tables i) y at
  live_x (Memories, i) y at = some_written memory_names (w.memories i) y at
  live_x (Tags, i) y at = some_written tag_names (w.tags i) y at
  live_x (Globals, i) y at = some_written global_names (w.globals i) y at
  live_x (Elements, i) y at = some_written element_names (w.elements i) y at
  live_x (DataSegments, i) y at = some_written data_names (w.data_segments i) y at

  in_v : (x y : Item) → Kept v x → Contains (written_in w x) y → Contains (written_in v x) y
  in_v (Types, i) y z at = subst (λ o. Contains (named_by type_names o) y) (k.types.kept i z) at
  in_v (Functions, i) y z at = subst (λ o. Contains (named_by function_names o) y) (k.functions.kept i z) at
  in_v (Tables, i) y z at = subst (λ o. Contains (named_by table_names o) y) (k.tables.kept i z) at
  in_v (Memories, i) y z at = subst (λ o. Contains (named_by memory_names o) y) (k.memories.kept i z) at
  in_v (Tags, i) y z at = subst (λ o. Contains (named_by tag_names o) y) (k.tags.kept i z) at
  in_v (Globals, i) y z at = subst (λ o. Contains (named_by global_names o) y) (k.globals.kept i z) at
  in_v (Elements, i) y z at = subst (λ o. Contains (named_by element_names o) y) (k.elements.kept i z) at
  in_v (DataSegments, i) y z at = subst (λ o. Contains (named_by data_names o) y) (k.data_segments.kept i z) at

  memory_names_none : (i : ℕ) (y : Item) → Contains (written_in v (Memories, i)) y → ⊥
  memory_names_none i y at = by_look (v.memories i) at
    where
      by_look : (o : Option Memory) → Contains (named_by memory_names o) y → ⊥
      by_look None h = Contains-none y h
      by_look (Some x) h = Contains-none y h

  follows : (x y : Item) → Kept v x → Contains (written_in v x) y → Kept v y
  follows x y (inl h) at = inl (step x y h (inl at))
  follows x y (inr h) at = absurd (memory_names_none h.memory y (subst (λ z. Contains (written_in v z) y) h.is at))

  named_live : (x y : Item) → Contains (written_in w x) y → IsLive w y
  named_live x y at =
      let z = kept_item c m v w p k holds x (live_x x y at) in
      let here = in_v x y z.0 at in
      live_w y (follows x y z.0 here) (live_named x y here)

  premises : Premises w
  premises = record {
    written = named_live;
    locals = λ f b y e u. let z = from_w c m v w p k holds f b e in typed f z.0 b z.1 y u;
    exports = λ e at. let there = subst (λ l. Contains l e) (k.exports ∙ q.exports ∙ map-itself _ m.exports (λ x. refl)) at in live_w e.item (inl (root e.item (exported e (subst (λ l. Contains l e) k.exports at) refl))) (live_v e.item (holds.indices.exports e there));
    start = λ f e. let in_v : v.start ≡ Some f = sym k.start ∙ e in live_w (Functions, f) (inl (root (Functions, f) (start f in_v refl))) (live_v (Functions, f) (holds.indices.start f (start_same m.start (sym q.start ∙ in_v))));
  }
    where
      start_same : {f : ℕ} (o : Option ℕ) → option_map (λ (i : ℕ). i) o ≡ Some f → o ≡ Some f
      start_same None e = absurd (cc)
      start_same (Some i) e = e

      typed : (f : ℕ) (a b : Body) → Twins c m v w p k holds f a b → (y : ℕ) → IsUsed b y → IsSome (b.local_type y)
      typed f a b z y u =
          let x = used_back (moved c m v p) f a b z.same y u in
          let t = some_of (a.local_type x.0) (holds.indices.locals f a x.0 z.in_m x.1) in
          subst (λ n. IsSome (b.local_type n)) x.2 (is_some_by (b.local_type (moved c m v p f x.0)) t.0 (z.whole.types x.0 t.0 t.1))

pub kept_lives : KeptLives
kept_lives c bytes m v w reads holds p k = premises handlers_live c m v w holds p k
