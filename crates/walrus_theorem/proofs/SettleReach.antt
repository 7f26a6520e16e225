-- What is kept of a module that was read is kept again in the one that is written for it, and nothing else stands there but types of handlers.
use Rattle.std.proofs.Common.{◌≡◌, ℕ, ◌<◌, Bool, true, false, List, [], ◌∷◌, ◌++◌, map, refl, sym, ap, ◌∙◌, subst, inl, inr, ⊎_elim, ◌⊎◌, arith, eqb-true, eq-eqb}
use Rattle.std.specs.Prelude.{Option, Some, None, option_map, IsSome, IsTrue, Contains}
use Rattle.walrus_base.specs.Operators.{Space, Types, Functions, Tables, Memories, Tags, Globals, Elements, DataSegments, Item, type_item}
use Rattle.walrus_model.specs.Abstract.{Abstract, Export, ElementKind, PassiveElements, DeclaredElements, ActiveElements, ListedFunctions, Element, DataKind, PassiveData, ActiveData, DataSegment, TypeDef}
use Rattle.walrus_model.specs.Live.{IsLive}
use Rattle.walrus_model.specs.Refers.{named_by, type_names, element_names, written_in, KeepsToo, Refers}
use Rattle.walrus_model.specs.Roots.{IsRootElement, IsRootData, IsRoot, exported, start, data_segment, element_segment, asked_for}
use Rattle.walrus_model.specs.Reached.{Reached, root, step}
use Rattle.walrus_model.specs.Kept.{Kept, IsFirstMemory, IsSpareMemory}
use Rattle.walrus_model.specs.Renaming.{Renaming, renamed, renamed_element_kind, renamed_element, renamed_data_kind, renamed_data, renamed_export}
use Rattle.walrus_model.specs.Carried.{Carried}
use Rattle.walrus_model.specs.Rules.{Holds}
use Rattle.walrus_model.specs.Config.{Config}
use Rattle.walrus_model.specs.Declared.{HasDeclaredSegment}
use Rattle.walrus_model.specs.Out.{MayBeAdded, Out}
use Rattle.walrus_model.specs.Sections.{is_on_table, is_on_memory, passes}
use Rattle.walrus_base.proofs.Lists.{Contains-none, Contains-map}
use Rattle.walrus_model.proofs.Steps.{given, live_under}
use Rattle.walrus_model.proofs.Follow.{names_follow_lem}
use Rattle.walrus_model.proofs.PipelineOps.{from_map}
use Rattle.walrus_model.proofs.StepPlain.{IsPlain}
use Rattle.walrus_theorem.proofs.StepParsed.{reached_live}
use Rattle.walrus_theorem.proofs.StepHandlers.{Contains-split}
use Rattle.walrus_base.proofs.Agree.{compared}
use Rattle.walrus_model.proofs.KeptFollow.{none_unless, not_none}

-- the sets of a module that was read are the active segments that name the table or the memory
pub record SetsAre (m : Abstract) : Type 0 where
  pub tables : (t e : ℕ) → m.table_segments t e ≡ passes (λ y. is_on_table t y.kind) (m.elements e)
  pub memories : (i d : ℕ) → m.memory_segments i d ≡ passes (λ y. is_on_memory i y.kind) (m.data_segments d)

passed : {X : Type 0} (test : X → Bool) (o : Option X) → IsTrue (passes test o) → (x : X) × (o ≡ Some x) × IsTrue (test x)
passed test (Some x) h = (x, refl, h)
passed test None h = let no : false ≡ true = h in absurd (cc)

pass : {X : Type 0} (test : X → Bool) (o : Option X) (x : X) → o ≡ Some x → IsTrue (test x) → IsTrue (passes test o)
pass test o x e h = subst (λ p. IsTrue (passes test p)) (sym e) h

pub named_there : {X : Type 0} (names : X → List Item) (o : Option X) (y : Item) → Contains (named_by names o) y → IsSome o
named_there names (Some x) y at = refl
named_there names None y at = absurd (Contains-none y at)

pub written_live : (n : Abstract) (x y : Item) → Contains (written_in n x) y → IsLive n x
written_live n (Types, i) y at = named_there _ (n.types i) y at
written_live n (Functions, i) y at = named_there _ (n.functions i) y at
written_live n (Tables, i) y at = named_there _ (n.tables i) y at
written_live n (Memories, i) y at = named_there _ (n.memories i) y at
written_live n (Tags, i) y at = named_there _ (n.tags i) y at
written_live n (Globals, i) y at = named_there _ (n.globals i) y at
written_live n (Elements, i) y at = named_there _ (n.elements i) y at
written_live n (DataSegments, i) y at = named_there _ (n.data_segments i) y at

module _ (r : Renaming) where
  element_forth : (k : ElementKind) → IsRootElement k → IsRootElement (renamed_element_kind r k)
  element_forth PassiveElements h = absurd h
  element_forth DeclaredElements h = tt
  element_forth (ActiveElements table offset) h = tt

  data_forth : (k : DataKind) → IsRootData k → IsRootData (renamed_data_kind r k)
  data_forth PassiveData h = absurd h
  data_forth (ActiveData memory offset) h = tt

  on_table_forth : (t : ℕ) (k : ElementKind) → IsTrue (is_on_table t k) → IsTrue (is_on_table (r.numbers Tables t) (renamed_element_kind r k))
  on_table_forth t (ActiveElements table offset) h = eq-eqb (r.numbers Tables table) (r.numbers Tables t) (ap (r.numbers Tables) (eqb-true table t h))
  on_table_forth t PassiveElements h = h
  on_table_forth t DeclaredElements h = h

  on_memory_forth : (i : ℕ) (k : DataKind) → IsTrue (is_on_memory i k) → IsTrue (is_on_memory (r.numbers Memories i) (renamed_data_kind r k))
  on_memory_forth i (ActiveData memory offset) h = eq-eqb (r.numbers Memories memory) (r.numbers Memories i) (ap (r.numbers Memories) (eqb-true memory i h))
  on_memory_forth i PassiveData h = h

module _ (A : Item → Type 0) (r : Renaming) (m n : Abstract) (c : Carried (Kept m) A r m n) (plain : IsPlain m) (holds : Holds m) (sets_m : SetsAre m) (sets_n : SetsAre n) where
  live_m : (x : Item) → Reached m x → IsLive m x
  live_m x h = reached_live m plain holds x h

  root_forth : (x : Item) → IsRoot m x → IsRoot n (renamed r x)
  root_forth x (exported e at is) = exported (renamed_export r e) (subst (λ l. Contains l (renamed_export r e)) (sym c.exports) (Contains-map (renamed_export r) e m.exports at)) (ap (renamed r) is)
  root_forth x (start f at is) = start (r.numbers Functions f) (c.start ∙ ap (option_map (r.numbers Functions)) at) (ap (renamed r) is)
  root_forth x (data_segment i d at kind is) =
      let k : Kept m (DataSegments, i) = inl (root (DataSegments, i) (data_segment i d at kind refl)) in
      let new = given (λ x y. y ≡ renamed_data r x) (m.data_segments i) (n.data_segments (r.numbers DataSegments i)) d (c.data_segments.same i k) at in
      data_segment (r.numbers DataSegments i) new.0 new.1 (subst (λ (z : DataSegment). IsRootData z.kind) (sym new.2) (data_forth r d.kind kind)) (ap (renamed r) is)
  root_forth x (element_segment i e at kind is) =
      let k : Kept m (Elements, i) = inl (root (Elements, i) (element_segment i e at kind refl)) in
      let new = given (λ x y. y ≡ renamed_element r x) (m.elements i) (n.elements (r.numbers Elements i)) e (c.elements.same i k) at in
      element_segment (r.numbers Elements i) new.0 new.1 (subst (λ (z : Element). IsRootElement z.kind) (sym new.2) (element_forth r e.kind kind)) (ap (renamed r) is)
  root_forth x (asked_for at) = absurd (Contains-none x (subst (λ l. Contains l x) plain.section_roots at))

  -- a segment in the set of a reached table or memory
  table_keeps : (t e : ℕ) → Reached m (Tables, t) → IsTrue (m.table_segments t e) → IsTrue (n.table_segments (r.numbers Tables t) (r.numbers Elements e))
  table_keeps t e h at =
      let held = passed (λ (y : Element). is_on_table t y.kind) (m.elements e) (subst IsTrue (sets_m.tables t e) at) in
      let k : Kept m (Elements, e) = inl (step (Tables, t) (Elements, e) h (inr (e, at, refl))) in
      let new = given (λ x y. y ≡ renamed_element r x) (m.elements e) (n.elements (r.numbers Elements e)) held.0 (c.elements.same e k) held.1 in
      subst IsTrue (sym (sets_n.tables (r.numbers Tables t) (r.numbers Elements e)))
      (pass (λ (y : Element). is_on_table (r.numbers Tables t) y.kind) (n.elements (r.numbers Elements e)) (renamed_element r held.0) (new.1 ∙ ap Some new.2) (on_table_forth r t held.0.kind held.2))

  memory_keeps : (i d : ℕ) → Reached m (Memories, i) → IsTrue (m.memory_segments i d) → IsTrue (n.memory_segments (r.numbers Memories i) (r.numbers DataSegments d))
  memory_keeps i d h at =
      let held = passed (λ (y : DataSegment). is_on_memory i y.kind) (m.data_segments d) (subst IsTrue (sets_m.memories i d) at) in
      let k : Kept m (DataSegments, d) = inl (step (Memories, i) (DataSegments, d) h (inr (d, at, refl))) in
      let new = given (λ x y. y ≡ renamed_data r x) (m.data_segments d) (n.data_segments (r.numbers DataSegments d)) held.0 (c.data_segments.same d k) held.1 in
      subst IsTrue (sym (sets_n.memories (r.numbers Memories i) (r.numbers DataSegments d)))
      (pass (λ (y : DataSegment). is_on_memory (r.numbers Memories i) y.kind) (n.data_segments (r.numbers DataSegments d)) (renamed_data r held.0) (new.1 ∙ ap Some new.2) (on_memory_forth r i held.0.kind held.2))

  keeps_forth : (x y : Item) → Reached m x → KeepsToo m x y → KeepsToo n (renamed r x) (renamed r y)
  keeps_forth (Functions, f) y h (t, at, is) = absurd (Contains-none t (subst (λ l. Contains l t) (plain.handler_types f) at))
  keeps_forth (Tables, t) y h (e, at, is) = (r.numbers Elements e, table_keeps t e h at, ap (renamed r) is)
  keeps_forth (Memories, i) y h (d, at, is) = (r.numbers DataSegments d, memory_keeps i d h at, ap (renamed r) is)
  keeps_forth (Types, i) y h none = none
  keeps_forth (Tags, i) y h none = none
  keeps_forth (Globals, i) y h none = none
  keeps_forth (Elements, i) y h none = none
  keeps_forth (DataSegments, i) y h none = none

  refers_forth : (x y : Item) → Reached m x → Refers m x y → Refers n (renamed r x) (renamed r y)
  refers_forth x y h (inl at) = inl (subst (λ l. Contains l (renamed r y)) (sym (names_follow_lem (Kept m) A r m n c x.0 x.1 (inl h))) (Contains-map (renamed r) y (written_in m x) at))
  refers_forth x y h (inr too) = inr (keeps_forth x y h too)

  pub reached_forth : (x : Item) → Reached m x → Reached n (renamed r x)
  reached_forth x (root y at) = root (renamed r x) (root_forth x at)
  reached_forth y (step x z h refers) = step (renamed r x) (renamed r y) (reached_forth x h) (refers_forth x y h refers)

  -- ---- what is there in n

  abbrev pub Image : Item → Type 0
  Image y = (x : Item) × Kept m x × (renamed r x ≡ y)

  image : (space : Space) (j : ℕ) → ((i : ℕ) × Kept m (space, i) × (r.numbers space i ≡ j)) ⊎ A (space, j) → Image (space, j) ⊎ A (space, j)
  image space j (inl (i, k, e)) = inl ((space, i), k, ap (λ (q : ℕ). let y : Item = (space, q) in y) e)
  image space j (inr added) = inr added

  pub found : (x : Item) → IsLive n x → Image x ⊎ A x
  found (Types, j) h = image Types j (c.types.onto j h)
  found (Functions, j) h = image Functions j (c.functions.onto j h)
  found (Tables, j) h = image Tables j (c.tables.onto j h)
  found (Memories, j) h = image Memories j (c.memories.onto j h)
  found (Tags, j) h = image Tags j (c.tags.onto j h)
  found (Globals, j) h = image Globals j (c.globals.onto j h)
  found (Elements, j) h = image Elements j (c.elements.onto j h)
  found (DataSegments, j) h = image DataSegments j (c.data_segments.onto j h)

  -- ---- the spare memory

  module _ (plain_n : IsPlain n) (silent : (x : Item) (j : ℕ) → A x → Contains (written_in n x) (Memories, j) → ⊥) where
    abbrev OldMemory : Type 0
    OldMemory = (i : ℕ) × Reached m (Memories, i)

    old_item : (y : Item) → y.0 ≡ Memories → Reached m y → OldMemory
    old_item (space, i) e h = (i, subst (λ s. Reached m (s, i)) e h)

    from_image : (x : Item) (j : ℕ) → Image x → Contains (written_in n x) (Memories, j) → OldMemory
    from_image x j (y, k, e) at =
        let names : written_in n (renamed r y) ≡ map (renamed r) (written_in m y) = names_follow_lem (Kept m) A r m n c y.0 y.1 k in
        let old = from_map (renamed r) (Memories, j) (written_in m y) (subst (λ l. Contains l (Memories, j)) names (subst (λ (z : Item). Contains (written_in n z) (Memories, j)) (sym e) at)) in
        named_old y k old.0 old.1 (ap (λ (z : Item). z.0) old.2) where
          named_old : (y : Item) → Kept m y → (z : Item) → Contains (written_in m y) z → z.0 ≡ Memories → OldMemory
          named_old y (inl h) z has is = old_item z is (step y z h (inl has))
          named_old y (inr s) z has is = absurd (nothing (m.memories s.memory) (subst (λ (w : Item). Contains (written_in m w) z) s.is has)) where
            nothing : {X : Type 0} (o : Option X) → Contains (named_by (λ w. []) o) z → ⊥
            nothing (Some w) at = Contains-none z at
            nothing None at = Contains-none z at

    not_kept_too : (x : Item) (y : Item) → y.0 ≡ Memories → KeepsToo n x y → ⊥
    not_kept_too (Functions, f) y e (t, at, is) = let no : Types ≡ Memories = sym (ap (λ (z : Item). z.0) is) ∙ e in absurd (cc)
    not_kept_too (Tables, t) y e (s, at, is) = let no : Elements ≡ Memories = sym (ap (λ (z : Item). z.0) is) ∙ e in absurd (cc)
    not_kept_too (Memories, i) y e (s, at, is) = let no : DataSegments ≡ Memories = sym (ap (λ (z : Item). z.0) is) ∙ e in absurd (cc)
    not_kept_too (Types, i) y e none = none
    not_kept_too (Tags, i) y e none = none
    not_kept_too (Globals, i) y e none = none
    not_kept_too (Elements, i) y e none = none
    not_kept_too (DataSegments, i) y e none = none

    memory_root : (y : Item) → y.0 ≡ Memories → IsRoot n y → OldMemory
    memory_root y e (exported x at is) =
        let old = from_map (renamed_export r) x m.exports (subst (λ l. Contains l x) c.exports at) in
        old_item old.0.item (ap (λ (z : Export). z.item.0) old.2 ∙ sym (ap (λ (z : Item). z.0) is) ∙ e) (root old.0.item (exported old.0 old.1 refl))
    memory_root y e (start f at is) = let no : Functions ≡ Memories = sym (ap (λ (z : Item). z.0) is) ∙ e in absurd (cc)
    memory_root y e (data_segment i d at h is) = let no : DataSegments ≡ Memories = sym (ap (λ (z : Item). z.0) is) ∙ e in absurd (cc)
    memory_root y e (element_segment i d at h is) = let no : Elements ≡ Memories = sym (ap (λ (z : Item). z.0) is) ∙ e in absurd (cc)
    memory_root y e (asked_for at) = absurd (Contains-none y (subst (λ l. Contains l y) plain_n.section_roots at))

    memory_step : (x y : Item) → y.0 ≡ Memories → Refers n x y → OldMemory
    memory_step x y e (inr too) = absurd (not_kept_too x y e too)
    memory_step x (space, j) e (inl at) =
        let here : Contains (written_in n x) (Memories, j) = subst (λ s. Contains (written_in n x) (s, j)) e at in
        ⊎_elim
        (λ old. from_image x j old here)
        (λ added. absurd (silent x j added here))
        (found x (written_live n x (Memories, j) here))

    memory_back : (y : Item) → y.0 ≡ Memories → Reached n y → OldMemory
    memory_back y e (root z at) = memory_root y e at
    memory_back y e (step x z h refers) = memory_step x y e refers

    first_one : (i j : ℕ) → IsFirstMemory m i → IsFirstMemory m j → i ≡ j
    first_one i j a b = ⊎_elim
        (λ lt. absurd (not_none (m.memories i) a.live (b.first i lt)))
        (λ rest. ⊎_elim (λ e. e) (λ gt. absurd (not_none (m.memories j) b.live (a.first j gt))) rest)
        (compared i j)

    module _ (no_added : (j : ℕ) → A (Memories, j) → ⊥) where
      spare_number : (i : ℕ) (s : IsSpareMemory m (Memories, i)) → IsFirstMemory m i
      spare_number i s = subst (IsFirstMemory m) (sym (ap (λ (z : Item). z.1) s.is)) s.first

      none_before : (x : Item) (s : IsSpareMemory m x) (j : ℕ) → j < r.numbers Memories s.memory → IsSome (n.memories j) → ⊥
      none_before x s j lt there = ⊎_elim
          (λ old. ⊎_elim
          (λ h. s.no_memory_is old.0 h)
          (λ other. let same : old.0 ≡ s.memory = first_one old.0 s.memory (spare_number old.0 other) s.first in let is : r.numbers Memories s.memory ≡ j = sym (ap (r.numbers Memories) same) ∙ old.2 in let l : j < r.numbers Memories s.memory = lt in omega arith)
          old.1)
          (λ added. no_added j added)
          (c.memories.onto j there)

      spare_forth : (x : Item) → IsSpareMemory m x → IsSpareMemory n (renamed r x)
      spare_forth x s = record {
        segment = r.numbers DataSegments s.segment;
        data_is_reached = reached_forth (DataSegments, s.segment) s.data_is_reached;
        no_memory_is = λ j h. let old = memory_back (Memories, j) refl h in s.no_memory_is old.0 old.1;
        memory = r.numbers Memories s.memory;
        is = ap (renamed r) s.is;
        first = record {
          live = live_under (Kept m) A r m n c Memories s.memory (subst (Kept m) s.is (inr s));
          first = λ j less. none_unless (n.memories j) (none_before x s j less);
        };
      }

      pub kept_forth : (x : Item) → Kept m x → Kept n (renamed r x)
      kept_forth x (inl h) = inl (reached_forth x h)
      kept_forth x (inr s) = inr (spare_forth x s)

-- ---- what is added

module _ (c : Config) (m n : Abstract) (o : Out c m n) (plain : IsPlain m) (holds : Holds m) (sets_m : SetsAre m) (plain_n : IsPlain n) (sets_n : SetsAre n) where
  abbrev r : Renaming
  r = o.renaming

  abbrev pub Added : Item → Type 0
  Added x = MayBeAdded (Kept m) o.renaming m n o.segment x

  -- the declared segment
  segment_is : (fs : List ℕ) (j : ℕ) → o.segment ≡ Some j → HasDeclaredSegment (Kept m) r m n fs o.segment → n.elements j ≡ Some (record { kind = DeclaredElements; items = ListedFunctions (map (r.numbers Functions) fs) })
  segment_is [] j at none = let no : None ≡ Some j = sym none ∙ at in absurd (cc)
  segment_is (f ∷ fs) j at (k, is, there) =
      let both : Some k ≡ Some j = sym is ∙ at in
      let same : k ≡ j = cc in
      subst (λ q. n.elements q ≡ Some (record { kind = DeclaredElements; items = ListedFunctions (map (r.numbers Functions) (f ∷ fs)) })) same there.is

  pub the_segment : (j : ℕ) → o.segment ≡ Some j → n.elements j ≡ Some (record { kind = DeclaredElements; items = ListedFunctions (map (r.numbers Functions) o.declares.functions) })
  the_segment j at = segment_is o.declares.functions j at o.declares.declared

  segment_kept : (j : ℕ) → o.segment ≡ Some j → Kept n (Elements, j)
  segment_kept j at = inl (root (Elements, j) (element_segment j _ (the_segment j at) tt refl))

  function_no_memory : (fs : List ℕ) (j : ℕ) → Contains ([] ++ map (λ f. let y : Item = (Functions, f) in y) fs) (Memories, j) → ⊥
  function_no_memory fs j at = let h = from_map (λ f. let y : Item = (Functions, f) in y) (Memories, j) fs at in let e : Functions ≡ Memories = ap (λ (z : Item). z.0) h.2 in absurd (cc)

  type_no_memory : (o : Option TypeDef) (j : ℕ) → Contains (named_by type_names o) (Memories, j) → ⊥
  type_no_memory None j at = Contains-none (Memories, j) at
  type_no_memory (Some x) j at = ⊎_elim (only x.group) (only _) (Contains-split (Memories, j) (map type_item x.group) (map type_item _) at) where
    only : (ts : List ℕ) → Contains (map type_item ts) (Memories, j) → ⊥
    only ts has = let h = from_map type_item (Memories, j) ts has in let e : Types ≡ Memories = ap (λ (z : Item). z.0) h.2 in absurd (cc)

  added_silent : (x : Item) (j : ℕ) → Added x → Contains (written_in n x) (Memories, j) → ⊥
  added_silent (Types, i) j h at = type_no_memory (n.types i) j at
  added_silent (Elements, i) j h at = function_no_memory (map (r.numbers Functions) o.declares.functions) j (subst (λ e. Contains (named_by element_names e) (Memories, j)) (the_segment i h) at)
  added_silent (Functions, i) j none at = none
  added_silent (Tables, i) j none at = none
  added_silent (Memories, i) j none at = none
  added_silent (Tags, i) j none at = none
  added_silent (Globals, i) j none at = none
  added_silent (DataSegments, i) j none at = none

  pub image_kept : (x : Item) → Kept m x → Kept n (renamed r x)
  image_kept x k = kept_forth Added r m n o.carried plain holds sets_m sets_n plain_n added_silent (λ j none. none) x k

  abbrev pub OldItem : Item → Type 0
  OldItem y = (x : Item) × Kept m x × (renamed r x ≡ y)

  pub old_or_added : (x : Item) → IsLive n x → OldItem x ⊎ Added x
  old_or_added x h = found Added r m n o.carried plain holds sets_m sets_n x h

  added_kept : (x : Item) → (x.0 ≡ Types → ⊥) → Added x → Kept n x
  added_kept (Types, i) other h = absurd (other refl)
  added_kept (Elements, i) other h = segment_kept i h
  added_kept (Functions, i) other none = absurd none
  added_kept (Tables, i) other none = absurd none
  added_kept (Memories, i) other none = absurd none
  added_kept (Tags, i) other none = absurd none
  added_kept (Globals, i) other none = absurd none
  added_kept (DataSegments, i) other none = absurd none

  -- all that is there but types is kept again
  pub live_kept : (x : Item) → (x.0 ≡ Types → ⊥) → IsLive n x → Kept n x
  live_kept x other h = ⊎_elim
      (λ (old : OldItem x). subst (Kept n) old.2 (image_kept old.0 old.1))
      (λ added. added_kept x other added)
      (old_or_added x h)
