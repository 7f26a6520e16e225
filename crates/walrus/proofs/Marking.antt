-- Marks for all places, and the sets that are made of them.
use Rattle.std.proofs.Common.{◌≡◌, ℕ, zero, suc, ◌+◌, ◌<◌, ◌==◌, ◌||◌, Bool, true, false, List, [], ◌∷◌, length, Option, Some, None, eq-eqb, eqb-true, add-zero, zero-add, sym, ap, ap₂, ◌∙◌, subst, refl, arith}
use Rattle.std.specs.Prelude.{◌↔◌, IsSome, MatchOption, slice_index_or}
use Rattle.std.specs.Option.{is_some}
use Rattle.std.proofs.lemmas.Bool.{false≢true, or_left}
use Rattle.std.proofs.Math.Bool.{or-false}
use Rattle.walrus_base.specs.Arena.{item_at}
use Rattle.walrus_base.specs.Id.{place}
use Rattle.walrus_base.specs.declared.id.Id.{Id}
use Rattle.walrus_base.specs.IdSet.{Adds, has_id}
use Rattle.walrus_base.specs.declared.set.IdHashSet.{IdHashSet}
use Rattle.walrus_base.specs.Marks.{is_marked, mark_places, marked_from, places_marked}
use Rattle.walrus_base.specs.declared.marks.Marks.{Marks}
use Rattle.walrus_base.specs.ModuleTypes.{type_slots}
use Rattle.walrus_base.specs.Operators.{Types, Functions, Tables, Memories, Tags, Globals, Elements, DataSegments}
use Rattle.walrus_base.specs.PlaceList.{has}
use Rattle.walrus_items.specs.Data.{data_segments}
use Rattle.walrus_items.specs.Elements.{elements}
use Rattle.walrus_items.specs.Functions.{functions}
use Rattle.walrus_items.specs.Globals.{globals}
use Rattle.walrus_items.specs.Memories.{memories}
use Rattle.walrus_items.specs.Tables.{tables}
use Rattle.walrus_items.specs.Tags.{tags}
use Rattle.walrus_contents.specs.View.{contents_view, data_of, element_of, function, global_of, memory_of, table_of, tag_of}
use Rattle.walrus_contents.specs.declared.parts.Contents.{Contents}
use Rattle.walrus.specs.MarkedItems.{HavePlaces}
use Rattle.walrus.specs.declared.passes.marks.MarkedItems.{MarkedItems}
use Rattle.walrus_base.proofs.Standing.{was_some as was_there}

-- ---- a mark for each live item

pub below : {T : Type 0} (xs : List (Option T)) (i : ℕ) → IsSome (item_at xs i) → i < length xs
below [] i h = absurd cc
below (x ∷ xs) zero h = omega arith
below (x ∷ xs) (suc i) h = let lt : i < length xs = below xs i h in omega (arith, lt)

-- so many places are enough
enough : {T : Type 0} (n : ℕ) (xs : List (Option T)) → n ≡ length xs → (i : ℕ) → IsSome (item_at xs i) → i < n
enough n xs e i h = subst (λ (k : ℕ). i < k) (sym e) (below xs i h)

pub places_made : (c : Contents) (m : MarkedItems) → mark_places m.types ≡ length (type_slots c.types) → mark_places m.funcs ≡ length (functions c.funcs)
    → mark_places m.tables ≡ length (tables c.tables) → mark_places m.memories ≡ length (memories c.memories)
    → mark_places m.tags ≡ length (tags c.tags) → mark_places m.globals ≡ length (globals c.globals)
    → mark_places m.elements ≡ length (elements c.elements) → mark_places m.data_ ≡ length (data_segments c.data_) → HavePlaces (contents_view c) m
places_made c m et ef eb em ea eg ee ed (Types, i) live = enough (mark_places m.types) (type_slots c.types) et i live
places_made c m et ef eb em ea eg ee ed (Functions, i) live = enough (mark_places m.funcs) (functions c.funcs) ef i (was_there (function c.locals) (item_at (functions c.funcs) i) live)
places_made c m et ef eb em ea eg ee ed (Tables, i) live = enough (mark_places m.tables) (tables c.tables) eb i (was_there table_of (item_at (tables c.tables) i) live)
places_made c m et ef eb em ea eg ee ed (Memories, i) live = enough (mark_places m.memories) (memories c.memories) em i (was_there memory_of (item_at (memories c.memories) i) live)
places_made c m et ef eb em ea eg ee ed (Tags, i) live = enough (mark_places m.tags) (tags c.tags) ea i (was_there tag_of (item_at (tags c.tags) i) live)
places_made c m et ef eb em ea eg ee ed (Globals, i) live = enough (mark_places m.globals) (globals c.globals) eg i (was_there global_of (item_at (globals c.globals) i) live)
places_made c m et ef eb em ea eg ee ed (Elements, i) live = enough (mark_places m.elements) (elements c.elements) ee i (was_there element_of (item_at (elements c.elements) i) live)
places_made c m et ef eb em ea eg ee ed (DataSegments, i) live = enough (mark_places m.data_) (data_segments c.data_) ed i (was_there data_of (item_at (data_segments c.data_) i) live)

-- ---- the places that are marked, as a list

none_before : (bs : List Bool) (s q : ℕ) → q < s → has (marked_from s bs) q ≡ false
none_before [] s q lt = refl
none_before (false ∷ bs) s q lt = none_before bs (s + 1) q (omega (arith, lt))
none_before (true ∷ bs) s q lt = by (s == q) refl (none_before bs (s + 1) q (omega (arith, lt))) where
  by : (t : Bool) → (s == q) ≡ t → has (marked_from (s + 1) bs) q ≡ false → (t || has (marked_from (s + 1) bs) q) ≡ false
  by true e later = let same : s ≡ q = eqb-true s q e in absurd (omega (arith, same, lt))
  by false e later = later

has_marked : (bs : List Bool) (s p : ℕ) → has (marked_from s bs) (s + p) ≡ slice_index_or bs p false
has_marked [] s p = refl
has_marked (false ∷ bs) s zero = none_before bs (s + 1) (s + 0) (omega arith)
has_marked (false ∷ bs) s (suc p) = let e : s + suc p ≡ (s + 1) + p = omega arith in ap (has (marked_from (s + 1) bs)) e ∙ has_marked bs (s + 1) p
has_marked (true ∷ bs) s zero = or_left (s == s + 0) (has (marked_from (s + 1) bs) (s + 0)) (eq-eqb s (s + 0) (sym (add-zero s)))
has_marked (true ∷ bs) s (suc p) = by (s == s + suc p) refl (let e : s + suc p ≡ (s + 1) + p = omega arith in ap (has (marked_from (s + 1) bs)) e ∙ has_marked bs (s + 1) p) where
  by : (t : Bool) → (s == s + suc p) ≡ t → has (marked_from (s + 1) bs) (s + suc p) ≡ slice_index_or bs p false → (t || has (marked_from (s + 1) bs) (s + suc p)) ≡ slice_index_or bs p false
  by true e later = let same : s ≡ s + suc p = eqb-true s (s + suc p) e in absurd (omega (arith, same))
  by false e later = later

-- whether any is, told by the first of them
module _ {K : Type 0} (marks : Marks K) where
  first_marked : (q : ℕ) (left after : List ℕ) → left ≡ places_marked marks → left ≡ q ∷ after → is_marked marks q ≡ true
  first_marked q left after all is =
      sym (has_marked marks.marks.items 0 q) ∙ ap (has (places_marked marks)) (zero-add q)
      ∙ ap (λ (ps : List ℕ). has ps q) (sym all ∙ is) ∙ or_left (q == q) (has after q) (eq-eqb q q refl)

  none_marked : (left : List ℕ) → left ≡ places_marked marks → left ≡ [] → (p : ℕ) → is_marked marks p ≡ false
  none_marked left all is p =
      sym (has_marked marks.marks.items 0 p) ∙ ap (has (places_marked marks)) (zero-add p) ∙ ap (λ (ps : List ℕ). has ps p) (sym all ∙ is)

  pub any_marked : (r : Option (Id K)) (left after : List ℕ) → left ≡ places_marked marks
      → MatchOption r ((left ≡ []) × (after ≡ [])) (λ id. left ≡ place id ∷ after) → (is_some r ≡ true) ↔ ((p : ℕ) × (is_marked marks p ≡ true))
  any_marked (Some id) left after all is = (λ h. (place id, first_marked (place id) left after all is), λ h. refl)
  any_marked None left after all is = (λ h. absurd (false≢true h), λ h. absurd (false≢true (sym (none_marked left all is.0 h.0) ∙ h.1)))

-- ---- a set that is made of them

module _ {K : Type 0} (marks : Marks K) where
  -- what is in, and what is still to come, is what is marked
  abbrev pub Made : IdHashSet K → List ℕ → Type 0
  Made ids rest = (p : ℕ) → (has_id ids p || has rest p) ≡ is_marked marks p

  pub made_begins : (ids : IdHashSet K) (rest : List ℕ) → ((p : ℕ) → has_id ids p ≡ false) → rest ≡ places_marked marks → Made ids rest
  made_begins ids rest none is p =
      ap₂ (λ (a : Bool) (ps : List ℕ). a || has ps p) (none p) is
      ∙ ap (has (places_marked marks)) (sym (zero-add p)) ∙ has_marked marks.marks.items 0 p

  added : (now then_ here rest : Bool) → here ≡ true → now ≡ true → (now || rest) ≡ (then_ || (here || rest))
  added true true true rest e f = refl
  added true false true rest e f = refl
  added now then_ false rest e f = absurd (false≢true e)
  added false then_ true rest e f = absurd (false≢true f)

  pub made_goes : (old new : IdHashSet K) (q : ℕ) (left rest : List ℕ) → left ≡ q ∷ rest → Adds old new q → Made old left → Made new rest
  made_goes old new q left rest is adds made p = by (q == p) refl ∙ ap (λ (ps : List ℕ). has_id old p || has ps p) (sym is) ∙ made p where
    by : (t : Bool) → (q == p) ≡ t → (has_id new p || has rest p) ≡ (has_id old p || ((q == p) || has rest p))
    by true e = added (has_id new p) (has_id old p) (q == p) (has rest p) e (subst (λ (n : ℕ). has_id new n ≡ true) (eqb-true q p e) adds.added)
    by false e =
        ap (λ (a : Bool). a || has rest p) (adds.others p (λ same. false≢true (sym e ∙ eq-eqb q p (sym same))))
        ∙ ap (λ (t : Bool). has_id old p || (t || has rest p)) (sym e)

  pub made_ends : (ids : IdHashSet K) (left : List ℕ) → left ≡ [] → Made ids left → (p : ℕ) → has_id ids p ≡ is_marked marks p
  made_ends ids left is made p = sym (or-false (has_id ids p)) ∙ ap (λ (ps : List ℕ). has_id ids p || has ps p) (sym is) ∙ made p
