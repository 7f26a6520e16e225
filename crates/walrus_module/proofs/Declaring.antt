-- The segment that declares what `ref.func` names: what a module is left as with it.
use Rattle.std.proofs.Common.{◌≡◌, ℕ, zero, suc, ◌<◌, false, true, List, [], ◌∷◌, ◌++◌, map, length, refl, sym, ap, ◌∙◌, subst, arith, ⊎_elim}
use mathlib.Core.Path.{fun_ext}
use Rattle.std.specs.Prelude.{Option, Some, None, IsSome, option_map, Contains, OnErr, Result, Ok, Err}
use Rattle.std.specs.Global.{Vec}
use Rattle.std.proofs.lemmas.Bool.Decides.{eqb_tells}
use Rattle.walrus_base.specs.Arena.{item_at}
use Rattle.walrus_base.specs.Id.{place}
use Rattle.walrus_base.specs.declared.id.Id.{Id}
use Rattle.walrus_base.specs.declared.keys.FunctionKey.{FunctionKey}
use Rattle.walrus_base.specs.Operators.{Types, Functions, Tables, Memories, Tags, Globals, Elements, DataSegments, Item, function_item}
use Rattle.walrus_items.specs.declared.segments.ElementItems.TheVariants as element_contents
use Rattle.walrus_items.specs.declared.segments.ElementKind.TheVariants as element_kinds
use Rattle.walrus_items.specs.Elements.{ElementValue, ModuleElements, elements as elements_in}
use Rattle.walrus_items.specs.OwnIds.{AtOwnIds}
use Rattle.walrus_contents.specs.View.{contents_view, element_of, name_at, named_of}
use Rattle.walrus_contents.specs.declared.parts.Contents.{Contents}
use Rattle.walrus_model.specs.Abstract.{Abstract, TheModule, AnItem, ALocal, Element, Name, Subject}
use Rattle.walrus_model.specs.Dead.{HasDead}
use Rattle.walrus_model.specs.Declared.{AreUndeclared, NothingUndeclared}
use Rattle.walrus_model.specs.Live.{IsLive}
use Rattle.walrus_model.specs.Names.{last_name, own_name}
use Rattle.walrus_model.specs.Refers.{named_by, written_in, element_names}
use Rattle.walrus_base.proofs.Lists.{Contains-head}
use Rattle.walrus_model.proofs.Living.{AllLive, all_live, none_dead}
use Rattle.walrus_model.proofs.PipelineOps.{from_map}
use Rattle.walrus_base.proofs.Standing.{some_inj}
use Rattle.walrus_reading.specs.Parsed.{ItemsAtOwnIds}
use Rattle.walrus_theorem.specs.Chain.{AddsSegment, HasSegment, Leaves}
use Rattle.walrus_theorem.proofs.SegmentStep.{live_too, live_undeclared, the_segment}
use Rattle.walrus_theorem.proofs.StepLeaves.{Between, between, is_segment, nothing_undeclared}
use Rattle.walrus_module.specs.Left.{AddsDeclared, AndOne, AsTheyWere, ChangesElements}
use Rattle.walrus_module.specs.View.{contents_of}
use Rattle.walrus_module.specs.declared.entry.SectionEntry.{SectionEntry}
use Rattle.walrus_module.specs.declared.module.Module.{Module}

-- ---- slots with one more behind

module _ {X : Type 0} where
  item_last : (xs : List (Option X)) (o : Option X) (n : ℕ) → n ≡ length xs → item_at (xs ++ o ∷ []) n ≡ o
  item_last [] o zero e = refl
  item_last [] o (suc n) e = absurd (omega (arith, e))
  item_last (x ∷ xs) o zero e = absurd (omega (arith, e))
  item_last (x ∷ xs) o (suc n) e = item_last xs o n (omega (arith, e))

  item_front : (xs : List (Option X)) (o : Option X) (n : ℕ) → (n ≡ length xs → ⊥) → item_at (xs ++ o ∷ []) n ≡ item_at xs n
  item_front [] o zero away = absurd (away refl)
  item_front [] o (suc n) away = refl
  item_front (x ∷ xs) o zero away = refl
  item_front (x ∷ xs) o (suc n) away = item_front xs o n (λ (e : n ≡ length xs). away (omega (arith, e)))

  item_past : (xs : List (Option X)) (n : ℕ) → n ≡ length xs → item_at xs n ≡ None
  item_past [] n e = refl
  item_past (x ∷ xs) zero e = absurd (omega (arith, e))
  item_past (x ∷ xs) (suc n) e = item_past xs n (omega (arith, e))

  -- one more without a name changes no name
  names_stay : (name : X → Option Name) (xs : List (Option X)) (o : Option X) → name_at name o ≡ [] → (n : ℕ) → name_at name (item_at (xs ++ o ∷ []) n) ≡ name_at name (item_at xs n)
  names_stay name [] o none zero = none
  names_stay name [] o none (suc n) = refl
  names_stay name (x ∷ xs) o none zero = refl
  names_stay name (x ∷ xs) o none (suc n) = names_stay name xs o none n

  seen_within : {Y : Type 0} (seen : X → Y) (xs : List (Option X)) (n : ℕ) → IsSome (option_map seen (item_at xs n)) → n < length xs
  seen_within seen [] n h = absurd (let no : false ≡ true = h in cc)
  seen_within seen (x ∷ xs) zero h = omega arith
  seen_within seen (x ∷ xs) (suc n) h = let lt : n < length xs = seen_within seen xs n h in omega (arith, lt)

-- ---- whether there are any functions

module _ {X : Type 0} (value : X → ℕ) (v : Abstract) where
  -- where there are none, nothing is added
  pub none_leaves : (xs : List X) → AreUndeclared (IsLive v) v (map value xs) → length xs ≡ 0 → Leaves v v
  none_leaves [] are e = record { functions = []; undeclared = are; added = refl }
  none_leaves (x ∷ xs) are e = absurd (omega (arith, e))

  -- where nothing is undeclared, there are none
  pub settled_none : (xs : List X) → AreUndeclared (IsLive v) v (map value xs) → NothingUndeclared v → length xs ≡ 0
  settled_none [] are nothing = refl
  settled_none (x ∷ xs) are nothing = absurd (nothing (value x) ((are.are (value x)).0 (Contains-head (value x) (map value xs))))

  some_mapped : (xs : List X) → (length xs ≡ 0 → ⊥) → map value xs ≡ [] → ⊥
  some_mapped [] some e = some refl
  some_mapped (x ∷ xs) some e = cc

adds : (v u : Abstract) (fs : List ℕ) → (fs ≡ [] → ⊥) → HasSegment v u fs → u ≡ record v { elements = u.elements } → AddsSegment v u fs
adds v u [] some s same = absurd (some refl)
adds v u (f ∷ fs) some s same = (s, same)

-- ---- the module with the segment

abbrev pub declaring : ℕ → Vec (Id FunctionKey) → ElementValue
declaring id functions = record { id = id; kind = element_kinds.Declared; items = element_contents.Functions functions; name = None }

module _ (old new : List (Option ElementValue)) (functions : Vec (Id FunctionKey)) (id : ℕ) (here : id ≡ length old) (is : new ≡ old ++ Some (declaring id functions) ∷ []) where
  -- the one segment behind all others
  pub one_declared : AddsDeclared old new
  one_declared = AndOne functions (is ∙ ap (λ (n : ℕ). old ++ Some (declaring n functions) ∷ []) here)

  module _ (v : Abstract) (was : (i : ℕ) → v.elements i ≡ option_map element_of (item_at old i)) (unnamed : own_name v (AnItem (Elements, id)) ≡ None) where
    abbrev with_it : Abstract
    with_it = record v { elements = λ i. option_map element_of (item_at new i) }

    has_segment : HasSegment v (record v { elements = λ i. option_map element_of (item_at new i) }) (map place functions.items)
    has_segment = record {
      id = id;
      is = ap (λ (slots : List (Option ElementValue)). option_map element_of (item_at slots id)) is ∙ ap (option_map element_of) (item_last old (Some (declaring id functions)) id here);
      last = λ i there. let lt : i < length old = seen_within element_of old i (subst IsSome (was i) there) in omega (arith, here, lt);
      unnamed = unnamed;
      others = λ i away. ap (λ (slots : List (Option ElementValue)). option_map element_of (item_at slots i)) is
          ∙ ap (option_map element_of) (item_front old (Some (declaring id functions)) i (λ (e : i ≡ length old). away (e ∙ sym here))) ∙ sym (was i);
    }

    -- what is left with it
    one_leaves : AreUndeclared (IsLive v) v (map place functions.items) → (length functions.items ≡ 0 → ⊥) → Leaves v (record v { elements = λ i. option_map element_of (item_at new i) })
    one_leaves are some = record { functions = map place functions.items; undeclared = are; added = adds v with_it (map place functions.items) (some_mapped place v functions.items some) has_segment refl }

-- ---- the same of what a module holds: its names stay

module _ (held : Contents) (segments : ModuleElements) where
  abbrev segment_names : List (Option ElementValue) → ℕ → List Name
  segment_names slots i = name_at (λ (e : ElementValue). e.name) (item_at slots i)

  names_same : ((i : ℕ) → segment_names (elements_in segments) i ≡ segment_names (elements_in held.elements) i) → (y : Subject) → named_of (record held { elements = segments }) y ≡ named_of held y
  names_same same TheModule = refl
  names_same same (AnItem (Types, i)) = refl
  names_same same (AnItem (Functions, i)) = refl
  names_same same (AnItem (Tables, i)) = refl
  names_same same (AnItem (Memories, i)) = refl
  names_same same (AnItem (Tags, i)) = refl
  names_same same (AnItem (Globals, i)) = refl
  names_same same (AnItem (Elements, i)) = same i
  names_same same (AnItem (DataSegments, i)) = refl
  names_same same (ALocal f x) = refl

  -- where no segment's name changes, nothing but the segments does
  view_with : ((i : ℕ) → segment_names (elements_in segments) i ≡ segment_names (elements_in held.elements) i)
      → contents_view (record held { elements = segments }) ≡ record (contents_view held) { elements = λ i. option_map element_of (item_at (elements_in segments) i) }
  view_with same = ap (λ (n : Subject → List Name). record (contents_view held) { elements = λ i. option_map element_of (item_at (elements_in segments) i); named = n }) (fun_ext (names_same same))

  -- with the same segments the module is the same
  same_view : elements_in segments ≡ elements_in held.elements → contents_view (record held { elements = segments }) ≡ contents_view held
  same_view same = view_with (λ i. ap (λ (slots : List (Option ElementValue)). segment_names slots i) same)
      ∙ ap (λ (slots : List (Option ElementValue)). record (contents_view held) { elements = λ i. option_map element_of (item_at slots i) }) same

  -- so it is where one more was refused
  pub refused_same : {A E : Type 0} (r : Result A E) → elements_in segments ≡ elements_in held.elements → OnErr r (contents_view (record held { elements = segments }) ≡ contents_view held)
  refused_same (Ok x) same = tt
  refused_same (Err e) same = same_view same

  -- what is left with one more
  pub segment_leaves : (functions : Vec (Id FunctionKey)) (id : ℕ) → id ≡ length (elements_in held.elements) → elements_in segments ≡ elements_in held.elements ++ Some (declaring id functions) ∷ []
      → AreUndeclared (IsLive (contents_view held)) (contents_view held) (map place functions.items) → (length functions.items ≡ 0 → ⊥) → Leaves (contents_view held) (contents_view (record held { elements = segments }))
  segment_leaves functions id here is are some =
      subst (λ (u : Abstract). Leaves (contents_view held) u)
      (sym (view_with (λ i. ap (λ (slots : List (Option ElementValue)). segment_names slots i) is ∙ names_stay (λ (e : ElementValue). e.name) (elements_in held.elements) (Some (declaring id functions)) refl i)))
      (one_leaves (elements_in held.elements) (elements_in segments) functions id here is (contents_view held) (λ i. refl)
      (ap (λ (o : Option ElementValue). last_name (name_at (λ (e : ElementValue). e.name) o)) (item_past (elements_in held.elements) id here)) are some)

-- ---- what is left names nothing dead, and nothing in it is undeclared

module _ (v : Abstract) (elements : ℕ → Option Element) (fs : List ℕ) (b : Between v (record v { elements = elements }) fs) (are : AreUndeclared (IsLive v) v fs) (alive : AllLive v) where
  abbrev u : Abstract
  u = record v { elements = elements }

  segment_lives : (i : ℕ) (y : Item) → b.segment ≡ Some i → Contains (named_by element_names (elements i)) y → IsLive u y
  segment_lives i y is at =
      let names : Contains (map function_item fs) y = subst (λ (o : Option Element). Contains (named_by element_names o) y) (the_segment v elements fs b are i is) at in
      let f = from_map function_item y fs names in
      subst (IsLive u) f.2 (live_too v elements fs b are (Functions, f.0) (live_undeclared v alive.written f.0 ((are.are f.0).0 f.1)))

  written_lives : (x y : Item) → Contains (written_in u x) y → IsLive u y
  written_lives (Types, i) y at = live_too v elements fs b are y (alive.written (Types, i) y at)
  written_lives (Functions, i) y at = live_too v elements fs b are y (alive.written (Functions, i) y at)
  written_lives (Tables, i) y at = live_too v elements fs b are y (alive.written (Tables, i) y at)
  written_lives (Memories, i) y at = live_too v elements fs b are y (alive.written (Memories, i) y at)
  written_lives (Tags, i) y at = live_too v elements fs b are y (alive.written (Tags, i) y at)
  written_lives (Globals, i) y at = live_too v elements fs b are y (alive.written (Globals, i) y at)
  written_lives (Elements, i) y at = ⊎_elim
      (λ is. segment_lives i y is at)
      (λ other. live_too v elements fs b are y (alive.written (Elements, i) y (subst (λ (o : Option Element). Contains (named_by element_names o) y) (b.others i other) at)))
      (is_segment b.segment i)
  written_lives (DataSegments, i) y at = live_too v elements fs b are y (alive.written (DataSegments, i) y at)

  all_live_with : AllLive (record v { elements = elements })
  all_live_with = record {
    written = written_lives;
    locals = alive.locals;
    exports = λ e at. live_too v elements fs b are e.item (alive.exports e at);
    start = alive.start;
    imports = λ i x at. live_too v elements fs b are x.item (alive.imports i x at);
    made = alive.made;
  }

module _ (v u : Abstract) (leaves : Leaves v u) where
  stands_between : Between v (record v { elements = u.elements }) leaves.functions
  stands_between = let b = between v u leaves in subst (λ (x : Abstract). Between v x leaves.functions) b.same b

  pub leaves_none_dead : (HasDead v → ⊥) → HasDead u → ⊥
  leaves_none_dead alive = none_dead u (subst AllLive (sym (between v u leaves).same) (all_live_with v u.elements leaves.functions stands_between leaves.undeclared (all_live v alive)))

  pub leaves_nothing : NothingUndeclared u
  leaves_nothing = subst NothingUndeclared (sym (between v u leaves).same) (nothing_undeclared v u.elements leaves.functions stands_between leaves.undeclared)

-- ---- items stay at their own ids, and the segment stands at its own

own_behind : {X : Type 0} (own : X → ℕ) (xs : List (Option X)) (x : X) → own x ≡ length xs → AtOwnIds own xs → AtOwnIds own (xs ++ Some x ∷ [])
own_behind own xs x is h i y at = ⊎_elim
    (λ here. ap own (sym (some_inj x y (sym (item_last xs (Some x) i here.1) ∙ at))) ∙ is ∙ sym here.1)
    (λ away. h i y (sym (item_front xs (Some x) i away.1) ∙ at))
    (eqb_tells i (length xs))

segments_own : (old new : List (Option ElementValue)) → AddsDeclared old new → AtOwnIds (λ (e : ElementValue). e.id) old → AtOwnIds (λ (e : ElementValue). e.id) new
segments_own old new (AsTheyWere same) h = subst (λ (slots : List (Option ElementValue)). AtOwnIds (λ (e : ElementValue). e.id) slots) (sym same) h
segments_own old new (AndOne functions is) h =
    subst (λ (slots : List (Option ElementValue)). AtOwnIds (λ (e : ElementValue). e.id) slots) (sym is)
    (own_behind (λ (e : ElementValue). e.id) old (declaring (length old) functions) refl h)

module _ {V : Type 0} {O : V → Type 0} (old new : Module (SectionEntry V O)) (others : ChangesElements old new) (adds : AddsDeclared (elements_in old.elements) (elements_in new.elements)) where
  pub ids_left : ItemsAtOwnIds (contents_of old) → ItemsAtOwnIds (contents_of new)
  ids_left h = subst (λ (m : Module (SectionEntry V O)). ItemsAtOwnIds (contents_of m)) (sym others) (record {
    functions = h.functions;
    exports = h.exports;
    locals = h.locals;
    imports = h.imports;
    tables = h.tables;
    memories = h.memories;
    tags = h.tags;
    globals = h.globals;
    elements = segments_own (elements_in old.elements) (elements_in new.elements) adds h.elements;
    data_segments = h.data_segments;
  })
