-- Engines walk over what was read and over what is written for it in step.
use Rattle.std.proofs.Common.{◌≡◌, ℕ, zero, suc, ◌<◌, Bool, List, [], ◌∷◌, ◌++◌, length, map, refl, sym, ap, ap₂, ◌∙◌, subst, inl, inr, ⊎_elim, arith}
use Rattle.std.proofs.lemmas.List.{map-append, length-map}
use Rattle.std.proofs.lemmas.Option.{slice_get-map}
use Rattle.std.specs.Prelude.{Option, Some, None, option_map, is_some, Contains, slice_get}
use Rattle.std.specs.List.{AllByRecursion}
use Rattle.walrus_base.specs.Operators.{Space, Functions, Elements, DataSegments, Item}
use Rattle.walrus_model.specs.Abstract.{Abstract, Name, ElementKind, PassiveElements, DeclaredElements, ActiveElements, ListedFunctions, Element, DataKind, PassiveData, ActiveData, DataSegment, Export}
use Rattle.walrus_model.specs.Config.{Config}
use Rattle.walrus_model.specs.Declared.{HasDeclaredSegment}
use Rattle.walrus_model.specs.Kept.{Kept}
use Rattle.walrus_model.specs.Out.{Out, Written, MayBeAdded, IsTheSegment}
use Rattle.walrus_model.specs.Carried.{Carried}
use Rattle.walrus_model.specs.Live.{IsLive}
use Rattle.walrus_theorem.specs.Once.{Premises}
use Rattle.walrus_model.specs.Reached.{root}
use Rattle.walrus_model.specs.Refers.{written_in}
use Rattle.walrus_model.specs.Renaming.{Renaming, renamed, renamed_element, renamed_element_kind, renamed_data, renamed_data_kind, renamed_export}
use Rattle.walrus_model.specs.Roots.{IsRootElement, IsRootData, exported, start, data_segment, element_segment}
use Rattle.walrus_model.specs.WellMade.{ImportsMatch}
use Rattle.walrus_base.proofs.Lists.{map-map, Contains-none, Contains-uncons, Contains-head, Contains-tail, Contains-map}
use Rattle.walrus_model.proofs.Follow.{names_follow_lem}
use Rattle.walrus_model.proofs.LawOrder.{In, contains_in, in_contains, Sorted, sorted_of}
use Rattle.walrus_model.proofs.PipelineOps.{from_map}
use Rattle.walrus_model.proofs.Reach.{taken}
use Rattle.walrus_model.proofs.Steps.{given}
use Rattle.walrus_theorem.proofs.StepHandlers.{Contains-split}
use Rattle.walrus_model.proofs.SpaceList.{one_list}
use Rattle.walrus_theorem.proofs.EnginesSee.{sight_follows, one_follows}
use Rattle.walrus_theorem.specs.Engines.{IsActiveKind, Sight, IsActive, AreAll, IsActiveElement, IsActiveData, Segments, face, start_items, shown, Ask, LookAt, AreOne, Engine, Walk, looked, compared, answered, walked, at_face, at_item, OutLooksSame, WrittenLooksSame}
use Rattle.walrus_model.proofs.RulesSteps.{kept_named as kept_closed}

-- ---- rising lists

above_map : (f : ℕ → ℕ) (x : ℕ) (ys : List ℕ) → ((y : ℕ) → In y ys → x < y → f x < f y) → AllByRecursion (λ y. x < y) ys → AllByRecursion (λ y. f x < y) (map f ys)
above_map f x [] rise h = tt
above_map f x (y ∷ ys) rise h = (rise y (inl refl) h.0, above_map f x ys (λ z at less. rise z (inr at) less) h.1)

sorted_map : (f : ℕ → ℕ) (xs : List ℕ) → ((x y : ℕ) → In x xs → In y xs → x < y → f x < f y) → Sorted (λ x y. x < y) xs → Sorted (λ x y. x < y) (map f xs)
sorted_map f [] rise h = tt
sorted_map f (x ∷ xs) rise h = (above_map f x xs (λ y at less. rise x y (inl refl) (inr at) less) h.0, sorted_map f xs (λ y z at to less. rise y z (inr at) (inr to) less) h.1)

-- what P tells of one module is, put through f, what Q tells of the other
one_told : (P Q : ℕ → Type 0) (f : ℕ → ℕ) (xs ys : List ℕ) → AreAll P xs → AreAll Q ys
    → ((i j : ℕ) → P i → P j → i < j → f i < f j) → ((i : ℕ) → P i → Q (f i)) → ((j : ℕ) → Q j → (i : ℕ) × P i × (f i ≡ j)) → ys ≡ map f xs
one_told P Q f xs ys a b rise forth back = one_list (λ x y. x < y) (λ x y h k. omega (arith, h, k)) (map f xs) ys
    (sorted_map f xs (λ x y at to less. rise x y ((a.are x).0 (in_contains xs x at)) ((a.are y).0 (in_contains xs y to)) less) (sorted_of (λ x y. x < y) xs a.rising))
    (sorted_of (λ x y. x < y) ys b.rising)
    (λ z at. let old = from_map f z xs (in_contains (map f xs) z at) in contains_in ys z (subst (Contains ys) old.2 ((b.are (f old.0)).1 (forth old.0 ((a.are old.0).0 old.1)))))
    (λ z at. let old = back z ((b.are z).0 (in_contains ys z at)) in contains_in (map f xs) z (subst (Contains (map f xs)) old.2 (Contains-map f old.0 xs ((a.are old.0).1 old.1))))

module _ (r : Renaming) where
  element_on : (k : ElementKind) → IsActive k → IsActive (renamed_element_kind r k)
  element_on (ActiveElements table offset) h = tt
  element_on PassiveElements h = absurd h
  element_on DeclaredElements h = absurd h

  element_off : (k : ElementKind) → IsActive (renamed_element_kind r k) → IsActive k
  element_off (ActiveElements table offset) h = tt
  element_off PassiveElements h = absurd h
  element_off DeclaredElements h = absurd h

  data_on : (k : DataKind) → IsActiveKind k → IsActiveKind (renamed_data_kind r k)
  data_on (ActiveData memory offset) h = tt
  data_on PassiveData h = absurd h

  data_off : (k : DataKind) → IsActiveKind (renamed_data_kind r k) → IsActiveKind k
  data_off (ActiveData memory offset) h = tt
  data_off PassiveData h = absurd h

active_root : (k : ElementKind) → IsActive k → IsRootElement k
active_root (ActiveElements table offset) h = tt
active_root PassiveElements h = absurd h
active_root DeclaredElements h = absurd h

active_data_root : (k : DataKind) → IsActiveKind k → IsRootData k
active_data_root (ActiveData memory offset) h = tt
active_data_root PassiveData h = absurd h

-- what is chosen of m holds what it shows and what it names, and makes up n, with nothing added that is active
pub record IsShownBy (K A : Item → Type 0) (r : Renaming) (m n : Abstract) : Type 0 where
  pub carried : Carried K A r m n
  pub match : ImportsMatch m
  pub named : (x y : Item) → K x → Contains (written_in m x) y → K y
  pub exports : (e : Export) → Contains m.exports e → K e.item
  pub start : (f : ℕ) → m.start ≡ Some f → K (Functions, f)
  pub elements : (i : ℕ) → IsActiveElement m i → K (Elements, i)
  pub data_segments : (i : ℕ) → IsActiveData m i → K (DataSegments, i)
  pub elements_rise : (i j : ℕ) → K (Elements, i) → K (Elements, j) → i < j → r.numbers Elements i < r.numbers Elements j
  pub data_rise : (i j : ℕ) → K (DataSegments, i) → K (DataSegments, j) → i < j → r.numbers DataSegments i < r.numbers DataSegments j
  pub no_element : (j : ℕ) → A (Elements, j) → IsActiveElement n j → ⊥
  pub no_data : (j : ℕ) → A (DataSegments, j) → ⊥

module _ (K A : Item → Type 0) (r : Renaming) (m n : Abstract) (o : IsShownBy K A r m n) where
  -- ---- active segments

  element_forth : (i : ℕ) → IsActiveElement m i → IsActiveElement n (r.numbers Elements i)
  element_forth i (e, at, active) =
      let new = given (λ x y. y ≡ renamed_element r x) (m.elements i) (n.elements (r.numbers Elements i)) e (o.carried.elements.same i (o.elements i (e, at, active))) at in
      (new.0, new.1, subst (λ (z : Element). IsActive z.kind) (sym new.2) (element_on r e.kind active))

  data_forth : (i : ℕ) → IsActiveData m i → IsActiveData n (r.numbers DataSegments i)
  data_forth i (d, at, active) =
      let new = given (λ x y. y ≡ renamed_data r x) (m.data_segments i) (n.data_segments (r.numbers DataSegments i)) d (o.carried.data_segments.same i (o.data_segments i (d, at, active))) at in
      (new.0, new.1, subst (λ (z : DataSegment). IsActiveKind z.kind) (sym new.2) (data_on r d.kind active))

  element_back : (j : ℕ) → IsActiveElement n j → (i : ℕ) × IsActiveElement m i × (r.numbers Elements i ≡ j)
  element_back j (e, at, active) = ⊎_elim
      (λ found.
      let old = taken (λ x y. y ≡ renamed_element r x) (m.elements found.0) (n.elements (r.numbers Elements found.0)) e (o.carried.elements.same found.0 found.1) (ap n.elements found.2 ∙ at) in
      (found.0, (old.0, old.1, element_off r old.0.kind (subst (λ (z : Element). IsActive z.kind) old.2 active)), found.2))
      (λ added. absurd (o.no_element j added (e, at, active)))
      (o.carried.elements.onto j (ap is_some at))

  data_back : (j : ℕ) → IsActiveData n j → (i : ℕ) × IsActiveData m i × (r.numbers DataSegments i ≡ j)
  data_back j (d, at, active) = ⊎_elim
      (λ found.
      let old = taken (λ x y. y ≡ renamed_data r x) (m.data_segments found.0) (n.data_segments (r.numbers DataSegments found.0)) d (o.carried.data_segments.same found.0 found.1) (ap n.data_segments found.2 ∙ at) in
      (found.0, (old.0, old.1, data_off r old.0.kind (subst (λ (z : DataSegment). IsActiveKind z.kind) old.2 active)), found.2))
      (λ added. absurd (o.no_data j added))
      (o.carried.data_segments.onto j (ap is_some at))

  joined_by : (a b x y : List Item) → x ≡ map (renamed r) a → y ≡ map (renamed r) b → x ++ y ≡ map (renamed r) (a ++ b)
  joined_by a b x y e f = ap₂ ◌++◌ e f ∙ sym (map-append (renamed r) a b)

  -- ---- steps

  -- the two walks: the same notes, and the same items under their numbers, all of them kept
  record InStep (a b : Walk) : Type 0 where
    notes : b.notes ≡ a.notes
    items : b.items ≡ map (renamed r) a.items
    known : (x : Item) → Contains a.items x → K x

  got_contains : (xs : List Item) (k : ℕ) (x : Item) → slice_get xs k ≡ Some x → Contains xs x
  got_contains [] k x e = absurd (cc)
  got_contains (y ∷ ys) zero x e = let is : y ≡ x = cc in subst (Contains (y ∷ ys)) is (Contains-head y ys)
  got_contains (y ∷ ys) (suc k) x e = Contains-tail y x ys (got_contains ys k x e)

  look_step : (a b : Walk) → InStep a b → (note : Sight → List ℕ) (p : Option Item) → ((x : Item) → p ≡ Some x → K x) → InStep (looked m a note p) (looked n b note (option_map (renamed r) p))
  look_step a b h note None known = record { notes = refl; items = h.items; known = h.known }
  look_step a b h note (Some x) known =
      let kept : K x = known x refl in record {
        notes = ap note (sight_follows K A r m n o.match o.carried x kept);
        items = joined_by a.items (written_in m x) b.items (written_in n (renamed r x)) h.items (names_follow_lem K A r m n o.carried x.0 x.1 kept);
        known = λ y at. ⊎_elim (λ old. h.known y old) (λ new. o.named x y kept new) (Contains-split y a.items (written_in m x) at);
      }

  compare_step : (p q : Option Item) → ((x : Item) → p ≡ Some x → K x) → ((x : Item) → q ≡ Some x → K x) → compared (option_map (renamed r) p) (option_map (renamed r) q) ≡ compared p q
  compare_step (Some x) (Some y) f g = one_follows K A r m n o.match o.carried x y (f x refl) (g y refl)
  compare_step (Some x) None f g = refl
  compare_step None q f g = refl

  got : (a b : Walk) → InStep a b → (k : ℕ) → slice_get b.items k ≡ option_map (renamed r) (slice_get a.items k)
  got a b h k = ap (λ l. slice_get l k) h.items ∙ slice_get-map (renamed r) a.items k

  known : (a b : Walk) → InStep a b → (k : ℕ) (x : Item) → slice_get a.items k ≡ Some x → K x
  known a b h k x e = h.known x (got_contains a.items k x e)

  one_step : (a b : Walk) → InStep a b → (ask : Ask) → InStep (answered m a ask) (answered n b ask)
  one_step a b h (LookAt k note) = subst (λ p. InStep (looked m a note (slice_get a.items k)) (looked n b note p)) (sym (got a b h k)) (look_step a b h note (slice_get a.items k) (known a b h k))
  one_step a b h (AreOne k l note) = record {
    notes = ap note (ap₂ compared (got a b h k) (got a b h l) ∙ compare_step (slice_get a.items k) (slice_get a.items l) (known a b h k) (known a b h l));
    items = h.items;
    known = h.known;
  }

  in_step : (e : Engine) (a b : Walk) → InStep a b → (k : ℕ) → InStep (walked e m a k) (walked e n b k)
  in_step e a b h zero = h
  in_step e a b h (suc k) =
      let g = in_step e a b h k in
      subst (λ l. InStep (answered m (walked e m a k) (e.next (walked e m a k).notes)) (answered n (walked e n b k) (e.next l))) (sym g.notes)
      (one_step (walked e m a k) (walked e n b k) g (e.next (walked e m a k).notes))

  module _ (s : Segments m) (t : Segments n) where
    elements_follow : t.elements ≡ map (r.numbers Elements) s.elements
    elements_follow = one_told (IsActiveElement m) (IsActiveElement n) (r.numbers Elements) s.elements t.elements s.elements_are t.elements_are
        (λ i j a b less. o.elements_rise i j (o.elements i a) (o.elements j b) less) element_forth element_back

    data_follow : t.data_segments ≡ map (r.numbers DataSegments) s.data_segments
    data_follow = one_told (IsActiveData m) (IsActiveData n) (r.numbers DataSegments) s.data_segments t.data_segments s.data_are t.data_are
        (λ i j a b less. o.data_rise i j (o.data_segments i a) (o.data_segments j b) less) data_forth data_back

    -- ---- what is shown

    start_some : (p : Option ℕ) → is_some (option_map (r.numbers Functions) p) ≡ is_some p
    start_some None = refl
    start_some (Some f) = refl

    start_follows : (p : Option ℕ) → start_items (option_map (r.numbers Functions) p) ≡ map (renamed r) (start_items p)
    start_follows None = refl
    start_follows (Some f) = refl

    face_follows : face n t ≡ face m s
    face_follows =
        ap₂ (λ (es : List (Name × Space)) (b : Bool). record { exports = es; starts = b; elements = length t.elements; data_segments = length t.data_segments })
        (ap (map (λ (e : Export). (e.name, e.item.0))) o.carried.exports ∙ map-map (λ (e : Export). (e.name, e.item.0)) (renamed_export r) m.exports)
        (ap is_some o.carried.start ∙ start_some m.start)
        ∙ ap₂ (λ k l. record { exports = map (λ (e : Export). (e.name, e.item.0)) m.exports; starts = is_some m.start; elements = k; data_segments = l })
        (ap length elements_follow ∙ length-map s.elements (r.numbers Elements))
        (ap length data_follow ∙ length-map s.data_segments (r.numbers DataSegments))

    items_by : (space : Space) (xs ys : List ℕ) → ys ≡ map (r.numbers space) xs → map (λ i. (space, i)) ys ≡ map (renamed r) (map (λ (i : ℕ). let x : Item = (space, i) in x) xs)
    items_by space xs ys e = ap (map (λ i. (space, i))) e ∙ map-map (λ (i : ℕ). let x : Item = (space, i) in x) (r.numbers space) xs ∙ sym (map-map (renamed r) (λ (i : ℕ). let x : Item = (space, i) in x) xs)

    shown_follows : shown n t ≡ map (renamed r) (shown m s)
    shown_follows = joined_by _ _ _ _
        (ap (map (λ (e : Export). e.item)) o.carried.exports ∙ map-map (λ (e : Export). e.item) (renamed_export r) m.exports ∙ sym (map-map (renamed r) (λ (e : Export). e.item) m.exports))
        (joined_by _ _ _ _
        (ap start_items o.carried.start ∙ start_follows m.start)
        (joined_by _ _ _ _ (items_by Elements s.elements t.elements elements_follow) (items_by DataSegments s.data_segments t.data_segments data_follow)))

    start_chosen : (p : Option ℕ) → m.start ≡ p → (x : Item) → Contains (start_items p) x → K x
    start_chosen None e x at = absurd (Contains-none x at)
    start_chosen (Some f) e x at = ⊎_elim (λ is. subst K is (o.start f e)) (λ none. absurd (Contains-none x none)) (Contains-uncons (Functions, f) x [] at)

    shown_chosen : (x : Item) → Contains (shown m s) x → K x
    shown_chosen x at = ⊎_elim
        (λ h. let e = from_map (λ (e : Export). e.item) x m.exports h in subst K e.2 (o.exports e.0 e.1))
        (λ rest. ⊎_elim
        (λ h. start_chosen m.start refl x h)
        (λ more. ⊎_elim
        (λ h. let e = from_map (λ (i : ℕ). let y : Item = (Elements, i) in y) x s.elements h in subst K e.2 (o.elements e.0 ((s.elements_are.are e.0).0 e.1)))
        (λ h. let d = from_map (λ (i : ℕ). let y : Item = (DataSegments, i) in y) x s.data_segments h in subst K d.2 (o.data_segments d.0 ((s.data_are.are d.0).0 d.1)))
        (Contains-split x (map (λ i. (Elements, i)) s.elements) (map (λ i. (DataSegments, i)) s.data_segments) more))
        (Contains-split x (start_items m.start) (map (λ i. (Elements, i)) s.elements ++ map (λ i. (DataSegments, i)) s.data_segments) rest))
        (Contains-split x (map (λ (e : Export). e.item) m.exports) (start_items m.start ++ (map (λ i. (Elements, i)) s.elements ++ map (λ i. (DataSegments, i)) s.data_segments)) at)

    pub same_notes : (e : Engine) (k : ℕ) → (walked e n (at_face e n t) k).notes ≡ (walked e m (at_face e m s) k).notes
    same_notes e k = (in_step e (at_face e m s) (at_face e n t) (record { notes = ap e.first face_follows; items = shown_follows; known = λ x at. shown_chosen x at }) k).notes

  pub same_at_item : (x : Item) → K x → (e : Engine) (notes : List ℕ) (k : ℕ) → (walked e n (at_item notes (renamed r x)) k).notes ≡ (walked e m (at_item notes x) k).notes
  same_at_item x kept e notes k = (in_step e (at_item notes x) (at_item notes (renamed r x)) (record {
    notes = refl;
    items = refl;
    known = λ y at. ⊎_elim (λ is. subst K is kept) (λ none. absurd (Contains-none y none)) (Contains-uncons x y [] at);
  }) k).notes

-- the segment that is added isn't active
not_active : (K : Item → Type 0) (r : Renaming) (m n : Abstract) (segment : Option ℕ) (fs : List ℕ) (j : ℕ) → segment ≡ Some j → HasDeclaredSegment K r m n fs segment → IsActiveElement n j → ⊥
not_active K r m n segment [] j at none active = let no : None ≡ Some j = sym none ∙ at in absurd (cc)
not_active K r m n segment (f ∷ fs) j at (k, is, there) (e, stands, active) =
    let both : Some k ≡ Some j = sym is ∙ at in
    let same : k ≡ j = cc in
    let one : Some e ≡ Some (record { kind = DeclaredElements; items = ListedFunctions (map (r.numbers Functions) (f ∷ fs)) }) = sym stands ∙ ap n.elements (sym same) ∙ there.is in
    let kind : e.kind ≡ DeclaredElements = cc in
    subst IsActive kind active

-- ---- what comes out

module _ (c : Config) (m n : Abstract) (match : ImportsMatch m) (o : Out c m n) where
  out_shows : IsShownBy (Kept m) (MayBeAdded (Kept m) o.renaming m n o.segment) o.renaming m n
  out_shows = record {
    carried = o.carried;
    match = match;
    named = λ x y k at. kept_closed m x y k at;
    exports = λ e at. inl (root e.item (exported e at refl));
    start = λ f at. inl (root (Functions, f) (start f at refl));
    elements = λ i (e, at, active). inl (root (Elements, i) (element_segment i e at (active_root e.kind active) refl));
    data_segments = λ i (d, at, active). inl (root (DataSegments, i) (data_segment i d at (active_data_root d.kind active) refl));
    elements_rise = λ i j a b less. o.rises.items Elements (λ e. absurd (cc)) i j a b less;
    data_rise = λ i j a b less. o.rises.items DataSegments (λ e. absurd (cc)) i j a b less;
    no_element = λ j added active. not_active (Kept m) o.renaming m n o.segment o.declares.functions j added o.declares.declared active;
    no_data = λ j none. none;
  }

pub out_looks_same : OutLooksSame
out_looks_same c m n match o = (λ s t e k. same_notes _ _ o.renaming m n (out_shows c m n match o) s t e k, same_at_item _ _ o.renaming m n (out_shows c m n match o))

-- ---- what a module in memory is written as

module _ (c : Config) (v n : Abstract) (lives : Premises v) (match : ImportsMatch v) (o : Written c v n) where
  written_shows : IsShownBy (IsLive v) (IsTheSegment o.segment) o.renaming v n
  written_shows = record {
    carried = o.carried;
    match = match;
    named = λ x y live at. lives.written x y at;
    exports = λ e at. lives.exports e at;
    start = λ f at. lives.start f at;
    elements = λ i (e, at, active). ap is_some at;
    data_segments = λ i (d, at, active). ap is_some at;
    elements_rise = λ i j a b less. o.rises.items Elements (λ e. absurd (cc)) i j a b less;
    data_rise = λ i j a b less. o.rises.items DataSegments (λ e. absurd (cc)) i j a b less;
    no_element = λ j added active. not_active (IsLive v) o.renaming v n o.segment o.declares.functions j added o.declares.declared active;
    no_data = λ j none. none;
  }

pub written_looks_same : WrittenLooksSame
written_looks_same c v n lives match o s t e k = same_notes _ _ o.renaming v n (written_shows c v n lives match o) s t e k
