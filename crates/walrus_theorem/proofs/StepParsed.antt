-- A module that was parsed against the one that was read: every number stays, types are added behind, and what is reached and kept is the
-- same but for types of handlers.
use Rattle.std.proofs.Common.{◌≡◌, ℕ, ◌<◌, ◌≤◌, true, false, length, map, refl, sym, ap, ap₂, ◌∙◌, subst, inl, inr, ⊎_elim, ◌⊎◌, arith}
use Rattle.std.proofs.lemmas.Option.{slice_get_within}
use Rattle.std.specs.Prelude.{Option, Some, None, IsSome, IsTrue, is_some, slice_get, Contains}
use mathlib.Core.Path.{fun_ext}
use Rattle.walrus_base.specs.Types.{CompType, comp_names}
use Rattle.walrus_base.specs.Operators.{Space, Types, Functions, Tables, Memories, Tags, Globals, Elements, DataSegments, Item, type_item}
use Rattle.walrus_model.specs.Abstract.{Abstract, TypeDef, Body, FunctionKind, ImportedFunction, LocalFunction, Uninitialised, Function}
use Rattle.walrus_model.specs.Config.{Config}
use Rattle.walrus_model.specs.Live.{IsLive}
use Rattle.walrus_model.specs.Names.{body_of}
use Rattle.walrus_model.specs.Handlers.{handlers_of}
use Rattle.walrus_model.specs.Refers.{named_by, type_names, written_in, KeepsToo, Refers}
use Rattle.walrus_model.specs.Roots.{IsRoot, exported, start, data_segment, element_segment, asked_for}
use Rattle.walrus_model.specs.Reached.{Reached, root, step}
use Rattle.walrus_model.specs.Kept.{Kept, IsSpareMemory}
use Rattle.walrus_model.specs.Renaming.{Renaming, renamed, renamed_table, renamed_memory, renamed_tag, renamed_global, renamed_element, renamed_data}
use Rattle.walrus_model.specs.Same.{BothAnd, SameType, SameKind, SameFunction}
use Rattle.walrus_model.specs.Carried.{Carries, Carried}
use Rattle.walrus_model.specs.Rules.{Holds}
use Rattle.walrus_model.specs.Pipeline.{ReachedIsLive}
use Rattle.walrus_theorem.specs.Chain.{alone, IsLoneTypeAt, IsBehind, handlers_by, ParsedAs}
use Rattle.walrus_model.proofs.StepPlain.{IsPlain}
use Rattle.walrus_base.proofs.Lists.{map-itself, Contains-none, Contains-uncons}
use Rattle.walrus_model.proofs.Steps.{given, live_under}
use Rattle.walrus_model.proofs.Follow.{names_follow_lem}
use Rattle.walrus_model.proofs.PipelineOps.{from_map}
use Rattle.walrus_model.proofs.PipelineSame.{item_stays, table_stays, memory_stays, tag_stays, global_stays, element_stays, data_stays, exports_stay, start_stays, type_stays}
use Rattle.walrus_theorem.proofs.StepHandlers.{AllBelow, Placed, handlers_fine, handlers_placed}

-- ---- what is reached in a module that keeps the rules is there

module _ (m : Abstract) (plain : IsPlain m) (holds : Holds m) where
  pub reached_live : (x : Item) → Reached m x → IsLive m x
  reached_live x (root y (exported e at is)) = subst (λ (z : Item). IsLive m z) (sym is) (holds.indices.exports e at)
  reached_live x (root y (start f at is)) = subst (λ (z : Item). IsLive m z) (sym is) (holds.indices.start f at)
  reached_live x (root y (data_segment i d at h is)) = subst (λ (z : Item). IsLive m z) (sym is) (ap is_some at)
  reached_live x (root y (element_segment i e at h is)) = subst (λ (z : Item). IsLive m z) (sym is) (ap is_some at)
  reached_live x (root y (asked_for at)) = absurd (Contains-none x (subst (λ l. Contains l x) plain.section_roots at))
  reached_live y (step x z h (inl at)) = holds.indices.written x y at
  reached_live y (step x z h (inr too)) = plain.sets x y too

-- ---- roots of modules that have the same exports, start and segments

module _ (a b : Abstract) (exports : b.exports ≡ a.exports) (begins : b.start ≡ a.start) (datas : (i : ℕ) → b.data_segments i ≡ a.data_segments i) (elements : (i : ℕ) → b.elements i ≡ a.elements i) (asks : (x : Item) → Contains a.section_roots x → ⊥) where
  roots_go : (x : Item) → IsRoot a x → IsRoot b x
  roots_go x (exported e at is) = exported e (subst (λ l. Contains l e) (sym exports) at) is
  roots_go x (start f at is) = start f (begins ∙ at) is
  roots_go x (data_segment i d at h is) = data_segment i d (datas i ∙ at) h is
  roots_go x (element_segment i e at h is) = element_segment i e (elements i ∙ at) h is
  roots_go x (asked_for at) = absurd (asks x at)

-- ---- what is carried in place, with nothing added

module _ {X Y : Type 0} (h : Option X → Y) where
  both_stay : (S : X → X → Type 0) → ((x y : X) → S x y → h (Some y) ≡ h (Some x)) → (a b : Option X) → (IsSome a → BothAnd S a b) → (IsSome b → IsSome a) → h b ≡ h a
  both_stay S law (Some x) (Some y) f g = law x y (f refl)
  both_stay S law (Some x) None f g = absurd (f refl)
  both_stay S law None (Some y) f g = let no : false ≡ true = g refl in absurd (cc)
  both_stay S law None None f g = refl

  stays : (A : ℕ → Type 0) (S : ℕ → X → X → Type 0) (xs ys : ℕ → Option X) → ((j : ℕ) → A j → ⊥) → ((i : ℕ) (x y : X) → S i x y → h (Some y) ≡ h (Some x)) → Carries (λ i. IsSome (xs i)) A (λ i. i) S xs ys → (i : ℕ) → h (ys i) ≡ h (xs i)
  stays A S xs ys none law c i = both_stay (S i) (law i) (xs i) (ys i)
      (λ there. c.same i there)
      (λ there. ⊎_elim
      (λ found. subst (λ j. IsSome (xs j)) found.2 found.1)
      (λ added. absurd (none i added))
      (c.onto i there))

both_equal : {X : Type 0} (S : X → X → Type 0) → ((x y : X) → S x y → y ≡ x) → (a b : Option X) → BothAnd S a b → b ≡ a
both_equal S law (Some x) (Some y) s = ap Some (law x y s)
both_equal S law (Some x) None s = absurd s
both_equal S law None b s = absurd s

carried_kind : (r : Renaming) (i : ℕ) (k l : FunctionKind) → SameKind r i k l → l ≡ Uninitialised → ⊥
carried_kind r i (ImportedFunction p) (ImportedFunction q) s e = absurd (cc)
carried_kind r i (ImportedFunction p) (LocalFunction b) s e = s
carried_kind r i (ImportedFunction p) Uninitialised s e = s
carried_kind r i (LocalFunction a) (LocalFunction b) s e = absurd (cc)
carried_kind r i (LocalFunction a) (ImportedFunction q) s e = s
carried_kind r i (LocalFunction a) Uninitialised s e = s
carried_kind r i Uninitialised l s e = s

module _ (c : Config) (m v : Abstract) (p : ParsedAs c m v) where
  -- the renaming, which changes numbers of locals alone
  abbrev pub in_place : Renaming
  in_place = record { numbers = λ space i. i; imports = λ i. i; locals = p.renaming.locals }

  is_in_place : p.renaming ≡ in_place
  is_in_place = ap₂ (λ (n : Space → ℕ → ℕ) (i : ℕ → ℕ). let r : Renaming = record { numbers = n; imports = i; locals = p.renaming.locals } in r)
      (fun_ext (λ space. fun_ext (λ i. p.in_place (space, i)))) (fun_ext p.imports_in_place)

  abbrev pub Behind : Item → Type 0
  Behind x = IsBehind (length p.types) x

  pub carried_parsed : Carried (IsLive m) Behind in_place m v
  carried_parsed = subst (λ r. Carried (IsLive m) Behind r m v) is_in_place p.carried

  pub tables_stay : (i : ℕ) → v.tables i ≡ m.tables i
  tables_stay = stays (λ o. o) (λ j. Behind (Tables, j)) (λ i x y. y ≡ renamed_table in_place x) m.tables v.tables (λ j h. let e : Tables ≡ Types = h.0 in absurd (cc)) (λ i x y s. ap Some (s ∙ table_stays in_place (λ s i. refl) (λ i. refl) x)) carried_parsed.tables

  pub memories_stay : (i : ℕ) → v.memories i ≡ m.memories i
  memories_stay = stays (λ o. o) (λ j. Behind (Memories, j)) (λ i x y. y ≡ renamed_memory in_place x) m.memories v.memories (λ j h. let e : Memories ≡ Types = h.0 in absurd (cc)) (λ i x y s. ap Some (s ∙ memory_stays in_place (λ s i. refl) (λ i. refl) x)) carried_parsed.memories

  pub tags_stay : (i : ℕ) → v.tags i ≡ m.tags i
  tags_stay = stays (λ o. o) (λ j. Behind (Tags, j)) (λ i x y. y ≡ renamed_tag in_place x) m.tags v.tags (λ j h. let e : Tags ≡ Types = h.0 in absurd (cc)) (λ i x y s. ap Some (s ∙ tag_stays in_place (λ s i. refl) (λ i. refl) x)) carried_parsed.tags

  pub globals_stay : (i : ℕ) → v.globals i ≡ m.globals i
  globals_stay = stays (λ o. o) (λ j. Behind (Globals, j)) (λ i x y. y ≡ renamed_global in_place x) m.globals v.globals (λ j h. let e : Globals ≡ Types = h.0 in absurd (cc)) (λ i x y s. ap Some (s ∙ global_stays in_place (λ s i. refl) (λ i. refl) x)) carried_parsed.globals

  pub elements_stay : (i : ℕ) → v.elements i ≡ m.elements i
  elements_stay = stays (λ o. o) (λ j. Behind (Elements, j)) (λ i x y. y ≡ renamed_element in_place x) m.elements v.elements (λ j h. let e : Elements ≡ Types = h.0 in absurd (cc)) (λ i x y s. ap Some (s ∙ element_stays in_place (λ s i. refl) (λ i. refl) x)) carried_parsed.elements

  pub datas_stay : (i : ℕ) → v.data_segments i ≡ m.data_segments i
  datas_stay = stays (λ o. o) (λ j. Behind (DataSegments, j)) (λ i x y. y ≡ renamed_data in_place x) m.data_segments v.data_segments (λ j h. let e : DataSegments ≡ Types = h.0 in absurd (cc)) (λ i x y s. ap Some (s ∙ data_stays in_place (λ s i. refl) (λ i. refl) x)) carried_parsed.data_segments

  functions_stay : (i : ℕ) → is_some (v.functions i) ≡ is_some (m.functions i)
  functions_stay = stays is_some (λ j. Behind (Functions, j)) (SameFunction in_place) m.functions v.functions (λ j h. let e : Functions ≡ Types = h.0 in absurd (cc)) (λ i x y s. refl) carried_parsed.functions

  pub types_stay : (i : ℕ) → IsSome (m.types i) → v.types i ≡ m.types i
  types_stay i h = both_equal (SameType (λ t. t) i) (λ x y s. type_stays in_place (λ s i. refl) (λ i. refl) i x y s) (m.types i) (v.types i) (carried_parsed.types.same i h)

  pub function_of_v : (i : ℕ) (f : Function) → m.functions i ≡ Some f → (g : Function) × (v.functions i ≡ Some g) × SameFunction in_place i f g
  function_of_v i f at = given (SameFunction in_place i) (m.functions i) (v.functions i) f (carried_parsed.functions.same i (ap is_some at)) at

  function_kind_v : (i : ℕ) (g : Function) → v.functions i ≡ Some g → (o : Option Function) → m.functions i ≡ o → g.kind ≡ Uninitialised → ⊥
  function_kind_v i g at (Some f) e un =
      let there = function_of_v i f e in
      let same : Some there.0 ≡ Some g = sym there.1 ∙ at in
      let is : there.0 ≡ g = cc in
      carried_kind in_place i f.kind there.0.kind there.2.kind (ap (λ (x : Function). x.kind) is ∙ un)
  function_kind_v i g at None e un = let no : false ≡ true = sym (ap is_some e) ∙ sym (functions_stay i) ∙ ap is_some at in absurd (cc)

  pub initialised : (i : ℕ) (g : Function) → v.functions i ≡ Some g → g.kind ≡ Uninitialised → ⊥
  initialised i g at un = function_kind_v i g at (m.functions i) refl un

  pub exports_same : v.exports ≡ m.exports
  exports_same = carried_parsed.exports ∙ exports_stay in_place (λ s i. refl) (λ i. refl) m.exports

  start_same : v.start ≡ m.start
  start_same = carried_parsed.start ∙ start_stays in_place (λ s i. refl) (λ i. refl) m.start

  pub written_stays : (x : Item) → IsLive m x → written_in v x ≡ written_in m x
  written_stays (space, i) live =
      names_follow_lem (IsLive m) Behind in_place m v carried_parsed space i live
      ∙ map-itself (renamed in_place) (written_in m (space, i)) (item_stays in_place (λ s i. refl) (λ i. refl))

  pub live_forth : (x : Item) → IsLive m x → IsLive v x
  live_forth (space, i) live = live_under (IsLive m) Behind in_place m v carried_parsed space i live

  pub live_back : (x : Item) → (x.0 ≡ Types → ⊥) → IsLive v x → IsLive m x
  live_back (Types, i) other live = absurd (other refl)
  live_back (Functions, i) other live = sym (functions_stay i) ∙ live
  live_back (Tables, i) other live = subst IsSome (tables_stay i) live
  live_back (Memories, i) other live = subst IsSome (memories_stay i) live
  live_back (Tags, i) other live = subst IsSome (tags_stay i) live
  live_back (Globals, i) other live = subst IsSome (globals_stay i) live
  live_back (Elements, i) other live = subst IsSome (elements_stay i) live
  live_back (DataSegments, i) other live = subst IsSome (datas_stay i) live

  -- ---- types of handlers

  module _ (plain : IsPlain m) (holds : Holds m) where
    live_closed : (x y : Item) → IsLive m x → Contains (written_in m x) y → IsLive m y
    live_closed x y h at = holds.indices.written x y at

    pub below_some : (t : ℕ) (o : Option TypeDef) → slice_get p.types t ≡ o → IsSome o → t < length p.types
    below_some t (Some x) e s = slice_get_within p.types t x e
    below_some t None e s = let no : false ≡ true = s in absurd (cc)

    pub by_below : (f : ℕ) (o : Option Body) → body_of m f ≡ o → AllBelow (length p.types) (handlers_by m o)
    by_below f None at = λ comp has. absurd (Contains-none comp has)
    by_below f (Some b) at = λ comp has t named. below_some t (slice_get p.types t) refl
        (subst IsSome (p.types_read t) (handlers_fine m (IsLive m) live_closed f b at (plain.catches f b at) (λ y in_f. holds.indices.written (Functions, f) y in_f) comp has t named))

    pub places_of : (f : ℕ) → IsSome (m.functions f) → Placed (handlers_by m (body_of m f)) p.all_types (v.handler_types f)
    places_of f h = handlers_placed m v.handler_types (length p.types) (λ f. by_below f (body_of m f) refl) p.functions p.types p.all_types p.handlers (let le : length p.types ≤ length p.types = omega arith in le) f ((p.functions_read f).0 h)

    -- a type that a handler of a reached function needs
    pub record IsPlace (x : Item) : Type 0 where
      pub function : ℕ
      pub body : Body
      pub comp : CompType ℕ
      pub place : ℕ
      pub reached : Reached m (Functions, function)
      pub at : body_of m function ≡ Some body
      pub needed : Contains (handlers_of m body) comp
      pub is : x ≡ (Types, place)
      pub stands : IsLoneTypeAt comp p.all_types place
      pub listed : Contains (v.handler_types function) place

    abbrev pub IsEither : Item → Type 0
    IsEither x = Reached m x ⊎ IsPlace x

    needs : (f : ℕ) (t : ℕ) (y : Item) → y ≡ type_item t → Reached m (Functions, f) → Contains (v.handler_types f) t → (o : Option Body) → body_of m f ≡ o → (comp : CompType ℕ) → Contains (handlers_by m o) comp → IsLoneTypeAt comp p.all_types t → IsPlace y
    needs f t y is h listed None at comp has stands = absurd (Contains-none comp has)
    needs f t y is h listed (Some b) at comp has stands = record { function = f; body = b; comp = comp; place = t; reached = h; at = at; needed = has; is = is; stands = stands; listed = listed }

    keeps_either : (x y : Item) → Reached m x → KeepsToo v x y → IsEither y
    keeps_either (Functions, f) y h (t, at, is) =
        let found = (places_of f (reached_live m plain holds (Functions, f) h)).back t at in
        inr (needs f t y is h at (body_of m f) refl found.0 found.1 found.2)
    keeps_either (Tables, t) y h (e, at, is) = inl (step (Tables, t) y h (inr (e, subst IsTrue (p.table_segments t e) at, is)))
    keeps_either (Memories, i) y h (d, at, is) = inl (step (Memories, i) y h (inr (d, subst IsTrue (p.memory_segments i d) at, is)))
    keeps_either (Types, i) y h none = absurd none
    keeps_either (Tags, i) y h none = absurd none
    keeps_either (Globals, i) y h none = absurd none
    keeps_either (Elements, i) y h none = absurd none
    keeps_either (DataSegments, i) y h none = absurd none

    -- a lone type names itself and what its type names
    lone_names : (t : ℕ) (comp : CompType ℕ) → slice_get p.all_types t ≡ Some (alone t comp) → (y : Item) → Contains (written_in v (type_item t)) y → (type_item t ≡ y) ⊎ Contains (map type_item (comp_names comp)) y
    lone_names t comp at y has =
        Contains-uncons (type_item t) y (map type_item (comp_names comp))
        (subst (λ (o : Option TypeDef). Contains (named_by type_names o) y) (p.types_made t ∙ at) has)

    place_named : (x y : Item) (h : IsPlace x) → Contains (written_in v x) y → IsEither y
    place_named x y h has = ⊎_elim
        (λ (same : type_item h.place ≡ y). inr (subst IsPlace (h.is ∙ same) h))
        (λ inner.
        let u = from_map type_item y (comp_names h.comp) inner in
        inl (subst (λ (z : Item). Reached m z) u.2
        (handlers_fine m (Reached m) (λ a b r in_a. step a b r (inl in_a)) h.function h.body h.at (plain.catches h.function h.body h.at) (λ z in_f. step (Functions, h.function) z h.reached (inl in_f)) h.comp h.needed u.0 u.1)))
        (lone_names h.place h.comp h.stands.0 y (subst (λ z. Contains (written_in v z) y) h.is has))

    steps_either : (x y : Item) → IsEither x → Refers v x y → IsEither y
    steps_either x y (inl h) (inl at) = inl (step x y h (inl (subst (λ l. Contains l y) (written_stays x (reached_live m plain holds x h)) at)))
    steps_either x y (inl h) (inr too) = keeps_either x y h too
    steps_either x y (inr h) (inl at) = place_named x y h at
    steps_either x y (inr h) (inr too) = absurd (subst (λ z. KeepsToo v z y) h.is too)

    pub reached_back : (x : Item) → Reached v x → IsEither x
    reached_back x (root y at) = inl (root x (roots_go v m (sym exports_same) (sym start_same) (λ i. sym (datas_stay i)) (λ i. sym (elements_stay i)) (λ y has. Contains-none y (subst (λ l. Contains l y) p.section_roots has)) x at))
    reached_back y (step x z h at) = steps_either x y (reached_back x h) at

    keeps_on : (x y : Item) → KeepsToo m x y → KeepsToo v x y
    keeps_on (Functions, f) y (t, at, is) = absurd (Contains-none t (subst (λ l. Contains l t) (plain.handler_types f) at))
    keeps_on (Tables, t) y (e, at, is) = (e, subst IsTrue (sym (p.table_segments t e)) at, is)
    keeps_on (Memories, i) y (d, at, is) = (d, subst IsTrue (sym (p.memory_segments i d)) at, is)
    keeps_on (Types, i) y none = none
    keeps_on (Tags, i) y none = none
    keeps_on (Globals, i) y none = none
    keeps_on (Elements, i) y none = none
    keeps_on (DataSegments, i) y none = none

    refers_on : (x y : Item) → IsLive m x → Refers m x y → Refers v x y
    refers_on x y live (inl at) = inl (subst (λ l. Contains l y) (sym (written_stays x live)) at)
    refers_on x y live (inr too) = inr (keeps_on x y too)

    pub reached_on : (x : Item) → Reached m x → Reached v x
    reached_on x (root y at) = root x (roots_go m v exports_same start_same datas_stay elements_stay (λ y has. Contains-none y (subst (λ l. Contains l y) plain.section_roots has)) x at)
    reached_on y (step x z h at) = step x y (reached_on x h) (refers_on x y (reached_live m plain holds x h) at)

    -- the types for a reached function's handlers are reached
    pub place_reached : (f t : ℕ) → Reached m (Functions, f) → Contains (v.handler_types f) t → Reached v (type_item t)
    place_reached f t h at = step (Functions, f) (type_item t) (reached_on (Functions, f) h) (inr (t, at, refl))

    -- ---- what is kept

    kept_memory : (x : Item) → IsSpareMemory m x → IsSpareMemory v x
    kept_memory x s = record {
      segment = s.segment;
      data_is_reached = reached_on (DataSegments, s.segment) s.data_is_reached;
      no_memory_is = λ j h. ⊎_elim (s.no_memory_is j) (λ (place : IsPlace (Memories, j)). let e : Memories ≡ Types = ap (λ (y : Item). y.0) place.is in absurd (cc)) (reached_back (Memories, j) h);
      memory = s.memory;
      is = s.is;
      first = record { live = subst IsSome (sym (memories_stay s.memory)) s.first.live; first = λ j lt. memories_stay j ∙ s.first.first j lt };
    }

    kept_memory_back : (x : Item) → IsSpareMemory v x → IsSpareMemory m x
    kept_memory_back x s = record {
      segment = s.segment;
      data_is_reached = ⊎_elim (λ h. h) (λ (place : IsPlace (DataSegments, s.segment)). let e : DataSegments ≡ Types = ap (λ (y : Item). y.0) place.is in absurd (cc)) (reached_back (DataSegments, s.segment) s.data_is_reached);
      no_memory_is = λ j h. s.no_memory_is j (reached_on (Memories, j) h);
      memory = s.memory;
      is = s.is;
      first = record { live = subst IsSome (memories_stay s.memory) s.first.live; first = λ j lt. sym (memories_stay j) ∙ s.first.first j lt };
    }

    pub kept_on : (x : Item) → Kept m x → Kept v x
    kept_on x (inl h) = inl (reached_on x h)
    kept_on x (inr s) = inr (kept_memory x s)

    pub kept_either : (x : Item) → Kept v x → Kept m x ⊎ IsPlace x
    kept_either x (inl h) = ⊎_elim (λ r. inl (inl r)) (λ place. inr place) (reached_back x h)
    kept_either x (inr s) = inl (inr (kept_memory_back x s))

    pub kept_back : (x : Item) → (x.0 ≡ Types → ⊥) → Kept v x → Kept m x
    kept_back x other k = ⊎_elim (λ h. h) (λ (place : IsPlace x). absurd (other (ap (λ (y : Item). y.0) place.is))) (kept_either x k)

    place_live : (x : Item) → IsPlace x → IsLive v x
    place_live x place = subst (λ (y : Item). IsLive v y) (sym place.is) (ap is_some (p.types_made place.place ∙ place.stands.0))

    pub live_v : ReachedIsLive v
    live_v x h = ⊎_elim (λ r. live_forth x (reached_live m plain holds x r)) (place_live x) (reached_back x h)

    pub kept_live : (x : Item) → Kept m x → IsLive m x
    kept_live x (inl h) = reached_live m plain holds x h
    kept_live x (inr s) = subst (λ (y : Item). IsLive m y) (sym s.is) s.first.live
