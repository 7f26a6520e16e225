-- What a search for used items finds is what the abstract module says is reached, kept and sound.
use Rattle.std.proofs.Common.{◌≡◌, ℕ, ◌≤◌, ◌⊎◌, inl, inr, ⊎_elim, Bool, true, false, List, [], ◌++◌, flat_map, sym, ap, ◌∙◌, subst, refl}
use Rattle.std.specs.Prelude.{◌↔◌, Contains, option_map, Result, Ok, Err, MatchResult}
use Rattle.std.proofs.lemmas.Bool.{false≢true}
use Rattle.std.proofs.lemmas.List.Elements.{Contains-append_left, Contains-append_right, Contains-append_cases}
use Rattle.walrus_base.specs.Arena.{item_at, items}
use Rattle.walrus_base.specs.Operators.{Types, Functions, Tables, Memories, Tags, Globals, Elements, DataSegments, Item, function_item}
use Rattle.walrus_items.specs.Kinds.{exported}
use Rattle.walrus_items.specs.declared.segments.DataKind.TheVariants.{Active, Passive}
use Rattle.walrus_items.specs.declared.segments.DataKind.{DataKind}
use Rattle.walrus_items.specs.declared.segments.ElementKind.TheVariants as element_kinds
use Rattle.walrus_items.specs.declared.segments.ElementKind.{ElementKind}
use Rattle.walrus_items.specs.Data.{data_segments, is_passive_data}
use Rattle.walrus_items.specs.Elements.{elements}
use Rattle.walrus_items.specs.Exports.{ExportValue, exports}
use Rattle.walrus_model.specs.Abstract as abstract
use Rattle.walrus_model.specs.Kept.{ReachedCount}
use Rattle.walrus_model.specs.Roots.{IsRoot, IsRootData, IsRootElement, exported as is_exported, start, data_segment, element_segment, asked_for}
use Rattle.walrus_base.proofs.Lists.{Contains-map, Contains-none}
use Rattle.walrus_model.proofs.Reach.{Contains-unmap}
use Rattle.walrus_contents.specs.View.{contents_view, data_kind_of, data_of, element_kind_of, element_of, export_of}
use Rattle.walrus_contents.specs.declared.parts.Contents.{Contents}
use Rattle.walrus_module.specs.Meaning.{Meaning}
use Rattle.walrus_module.specs.View.{held_view, meanings, view}
use Rattle.walrus_module.specs.declared.entry.SectionEntry.{SectionEntry}
use Rattle.walrus_module.specs.declared.module.Module.{Module}
use Rattle.walrus_items.specs.Roots.{RootLists, no_roots, with_roots}
use Rattle.walrus_items.specs.declared.custom.CustomSection.{Ghosts}
use Rattle.walrus_theorem.proofs.SameItems.{live_back, with_own}
use Rattle.walrus_items.specs.declared.error.Error.{Error}
use Rattle.walrus_items.specs.declared.error.Error.TheVariants as errors
use Rattle.walrus_module.specs.Asked.{IsRefusedBy}
use Rattle.walrus_base.specs.IdSet.{has_id}
use Rattle.walrus_base.specs.Marks.{is_marked}
use Rattle.walrus_base.specs.declared.marks.Marks.{Marks}
use Rattle.walrus_base.specs.declared.set.IdHashSet.{IdHashSet}
use Rattle.walrus.specs.LiveCount.{live_count}
use Rattle.walrus.specs.Marked.{Finds, HoldsMarked, MarksAreKept, MarksKept, ReachesSound, ReachesUnsound}
use Rattle.walrus_contents.specs.Named.{active_names, are_passive, export_names, root_elements, root_names, start_names}
use Rattle.walrus_base.proofs.Lookups.{mapped_some}
use Rattle.walrus_contents.proofs.RootNames.{active_is_root, active_named, element_is_root, export_is_root, named_active, named_root_element, named_start, root_cases, root_element_named, start_is_root, start_named}
use Rattle.walrus.specs.Asked.{asked_items}
use Rattle.walrus.specs.Used.{IsRefusal, RefusesSearch}
use Rattle.walrus.specs.declared.passes.marks.MarkedItems.{MarkedItems}
use Rattle.walrus.specs.declared.passes.used.Used.{Used}
use Rattle.walrus.proofs.AskedItems.{asked_are_kept}
use Rattle.walrus.proofs.Room.{room_for_live}
use Rattle.walrus.proofs.SameRoots.{answers_still}

module _ (held : Contents) where
  abbrev v : abstract.Abstract
  v = contents_view held

  -- ---- the roots are what the exports name, the start function, the active data segments, and the active and the declared element segments

  active_kind : (k : DataKind) → IsRootData (data_kind_of k) → is_passive_data k ≡ false
  active_kind (Active memory offset) h = refl
  active_kind Passive h = absurd h

  root_kind : (k : DataKind) → is_passive_data k ≡ false → IsRootData (data_kind_of k)
  root_kind (Active memory offset) e = tt
  root_kind Passive e = absurd (false≢true (sym e))

  lasting_kind : (k : ElementKind) → IsRootElement (element_kind_of k) → are_passive k ≡ false
  lasting_kind (element_kinds.Active table offset) h = refl
  lasting_kind element_kinds.Declared h = refl
  lasting_kind element_kinds.Passive h = absurd h

  root_element_kind : (k : ElementKind) → are_passive k ≡ false → IsRootElement (element_kind_of k)
  root_element_kind (element_kinds.Active table offset) e = tt
  root_element_kind element_kinds.Declared e = tt
  root_element_kind element_kinds.Passive e = absurd (false≢true (sym e))

  root_named : (x : Item) → IsRoot v x → Contains (root_names held) x
  root_named x (is_exported e at is) =
      let from = Contains-unmap export_of (items (exports held.exports)) e at in
      let same : exported from.0.item ≡ x = ap (λ (y : abstract.Export). y.item) from.2 ∙ sym is in
      subst (λ (y : Item). Contains (root_names held) y) same
      (export_is_root held (exported from.0.item) (Contains-map (λ (y : ExportValue). exported y.item) from.0 (items (exports held.exports)) from.1))
  root_named x (start f at is) = subst (λ (y : Item). Contains (root_names held) y) (sym is) (start_is_root held (function_item f) (start_named held.start f at))
  root_named x (data_segment i d at kind is) =
      let from = mapped_some data_of (item_at (data_segments held.data_) i) d at in
      let active = active_kind from.0.kind (subst (λ (s : abstract.DataSegment). IsRootData s.kind) from.2 kind) in
      subst (λ (y : Item). Contains (root_names held) y) (sym is) (active_is_root held (DataSegments, i) (active_named held.data_ i from.0 from.1 active))
  root_named x (element_segment i e at kind is) =
      let from = mapped_some element_of (item_at (elements held.elements) i) e at in
      let lasting = lasting_kind from.0.kind (subst (λ (s : abstract.Element). IsRootElement s.kind) from.2 kind) in
      subst (λ (y : Item). Contains (root_names held) y) (sym is) (element_is_root held (Elements, i) (root_element_named held.elements i from.0 from.1 lasting))
  root_named x (asked_for at) = absurd (Contains-none x at)

  export_root : (x : Item) → Contains (export_names held.exports) x → IsRoot v x
  export_root x c =
      let from = Contains-unmap (λ (e : ExportValue). exported e.item) (items (exports held.exports)) x c in
      is_exported (export_of from.0) (Contains-map export_of from.0 (items (exports held.exports)) from.1) (sym from.2)

  start_root : (x : Item) → Contains (start_names held.start) x → IsRoot v x
  start_root x c = let from = named_start held.start x c in start from.0 from.1 from.2

  active_root : (x : Item) → Contains (active_names held.data_) x → IsRoot v x
  active_root x c =
      let from = named_active held.data_ x c in
      data_segment from.0 (data_of from.1) (ap (option_map data_of) from.2) (root_kind from.1.kind from.3) from.4

  element_root : (x : Item) → Contains (root_elements held.elements) x → IsRoot v x
  element_root x c =
      let from = named_root_element held.elements x c in
      element_segment from.0 (element_of from.1) (ap (option_map element_of) from.2) (root_element_kind from.1.kind from.3) from.4

  named_root : (x : Item) → Contains (root_names held) x → IsRoot v x
  named_root x c = ⊎_elim (export_root x) (λ h. ⊎_elim (start_root x) (λ later. ⊎_elim (active_root x) (element_root x) later) h) (root_cases held x c)

  -- ---- and with what custom sections ask to keep

  module _ (asked : List Item) where
    abbrev w : abstract.Abstract
    w = with_own v [] asked

    own_or_asked : (x : Item) → IsRoot w x → IsRoot v x ⊎ Contains asked x
    own_or_asked x (is_exported e at is) = inl (is_exported e at is)
    own_or_asked x (start f at is) = inl (start f at is)
    own_or_asked x (data_segment i d at kind is) = inl (data_segment i d at kind is)
    own_or_asked x (element_segment i e at kind is) = inl (element_segment i e at kind is)
    own_or_asked x (asked_for at) = inr at

    own_root : (x : Item) → IsRoot v x → IsRoot w x
    own_root x (is_exported e at is) = is_exported e at is
    own_root x (start f at is) = start f at is
    own_root x (data_segment i d at kind is) = data_segment i d at kind is
    own_root x (element_segment i e at kind is) = element_segment i e at kind is
    own_root x (asked_for at) = absurd (Contains-none x at)

    pub roots_are : (x : Item) → IsRoot w x ↔ Contains (root_names held ++ asked) x
    roots_are x = (
      λ r. ⊎_elim (λ h. Contains-append_left (root_names held) asked x (root_named x h)) (λ h. Contains-append_right (root_names held) asked x h) (own_or_asked x r),
      λ c. ⊎_elim (λ h. own_root x (named_root x h)) (λ h. asked_for h) (Contains-append_cases (root_names held) asked x c),
    )

-- ---- the clauses of the search

module _ (v : abstract.Abstract) where
  abbrev pub IsFound : Result (MarkedItems × ℕ) Error → Type 0
  IsFound r = MatchResult r (λ found. Finds v found.0 found.1) (IsRefusal (ReachesUnsound v))

-- a search of a module with custom sections can be refused by one of these, too
pub or_by_a_section : {X : Type 0} (P Q : Type 0) (Finds : X → Type 0) (r : Result X Error) → MatchResult r Finds (IsRefusal P) → MatchResult r Finds (RefusesSearch P Q)
or_by_a_section P Q Finds (Ok x) h = h
or_by_a_section P Q Finds (Err e) h = refused_too e h where
  refused_too : (e : Error) → IsRefusal P e → RefusesSearch P Q e
  refused_too (errors.Memory m) h = tt
  refused_too errors.DeadItem h = h
  refused_too _ h = absurd h

-- a section that is asked for what it keeps refuses
pub asked_refused : (P Q : Type 0) (e : Error) → IsRefusedBy Q e → RefusesSearch P Q e
asked_refused P Q (errors.Memory m) h = tt
asked_refused P Q (errors.Caller text) h = h
asked_refused P Q _ h = absurd h

-- what is found where just that is asked for which custom sections ask to keep is found of their module
pub found_of : {V : Type 0} {O : V → Type 0} (G : (v : V) → Ghosts (O v)) (m : Module (SectionEntry V O)) (asked : RootLists)
    → asked ≡ with_roots no_roots (flat_map (λ (s : Meaning). s.roots) (meanings G m)) → (parts : abstract.Abstract) → parts ≡ held_view m
    → (r : Result (MarkedItems × ℕ) Error) → IsFound (with_own parts [] (asked_items asked)) r → IsFound (view G m) r
found_of G m asked is parts are r found =
    answers_still (with_own (held_view m) [] (asked_items asked)) (view G m).customs (view G m).section_roots
    (asked_are_kept asked (flat_map (λ (s : Meaning). s.roots) (meanings G m)) is) r
    (subst (λ (p : abstract.Abstract). IsFound (with_own p [] (asked_items asked)) r) are found)

-- those reached are no more than those that are live
pub at_most_live : (held : Contents) (customs : List abstract.Custom) (roots : List Item) (n : ℕ) → ReachedCount (with_own (contents_view held) customs roots) n
    → ReachesSound (with_own (contents_view held) customs roots) → n ≤ live_count held
at_most_live held customs roots n counts sound = subst (λ (k : ℕ). k ≤ live_count held) counts.count
    (room_for_live held counts.items counts.once (λ x c. live_back (contents_view held) customs roots x (sound x ((counts.are x).0 c)).live))

-- the sets of what is marked are those of what is kept
pub sets_kept : (v : abstract.Abstract) (marks : MarkedItems) (used : Used) → MarksAreKept v marks → HoldsMarked marks used → MarksKept v used
sets_kept v marks used are hold x = (λ h. (are x).0 ((hold x).0 h), λ k. (hold x).1 ((are x).1 k))

-- the sets hold what is marked, where each holds what is marked of its kind
module _ (marks : MarkedItems) (used : Used) where
  abbrev Same : {K : Type 0} → IdHashSet K → Marks K → Type 0
  Same ids of_kind = (p : ℕ) → has_id ids p ≡ is_marked of_kind p

  one_kind : (a b : Bool) → a ≡ b → (a ≡ true) ↔ (b ≡ true)
  one_kind a b e = (λ h. sym e ∙ h, λ h. e ∙ h)

  pub sets_hold : Same used.types marks.types → Same used.funcs marks.funcs → Same used.tables marks.tables → Same used.memories marks.memories
      → Same used.tags marks.tags → Same used.globals marks.globals → Same used.elements marks.elements → Same used.data_ marks.data_ → HoldsMarked marks used
  sets_hold types funcs tables memories tags globals elements data_ (Types, i) = one_kind _ _ (types i)
  sets_hold types funcs tables memories tags globals elements data_ (Functions, i) = one_kind _ _ (funcs i)
  sets_hold types funcs tables memories tags globals elements data_ (Tables, i) = one_kind _ _ (tables i)
  sets_hold types funcs tables memories tags globals elements data_ (Memories, i) = one_kind _ _ (memories i)
  sets_hold types funcs tables memories tags globals elements data_ (Tags, i) = one_kind _ _ (tags i)
  sets_hold types funcs tables memories tags globals elements data_ (Globals, i) = one_kind _ _ (globals i)
  sets_hold types funcs tables memories tags globals elements data_ (Elements, i) = one_kind _ _ (elements i)
  sets_hold types funcs tables memories tags globals elements data_ (DataSegments, i) = one_kind _ _ (data_ i)
