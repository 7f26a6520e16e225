-- Tables and memories that keep segments one after another keep those that are active in them.
use Rattle.std.proofs.Common.{◌≡◌, ℕ, zero, suc, ◌+◌, ◌<◌, ◌≤◌, Bool, true, false, List, [], ◌∷◌, ◌++◌, length, map, take, get_or, refl, sym, ap, ap₂, subst, ◌∙◌, arith, append_assoc, append-nil, length-append, eqb-true}
use Rattle.std.specs.Prelude.{Option, Some, None, All, IsSome, nat_lt, if◌then◌else◌, option_map, slice_get, slice_set, unwrap_or, ◌||◌, ◌&&◌, ◌==◌}
use Rattle.std.proofs.lemmas.Bool.{eqb-false}
use Rattle.std.proofs.lemmas.List.Elements.{All-head, All-tail}
use Rattle.std.proofs.lemmas.List.{take_more, take_all, map-append}
use mathlib.Core.Path.{fun_ext}
use borrow.Author.Tests.{ltb-true}
use Rattle.wasm_entries.specs.Record as entries
use Rattle.wasm_frames.specs.Record as wire
use Rattle.walrus_code.specs.Names.{Lookup}
use Rattle.walrus_base.specs.IdSet.{Adds, has_id}
use Rattle.walrus_base.specs.declared.set.IdHashSet.{IdHashSet}
use Rattle.walrus_base.specs.Arena.{item_at, IsLive}
use Rattle.walrus_items.specs.Memories.{MemoryValue}
use Rattle.walrus_items.specs.Tables.{TableValue}
use Rattle.walrus_contents.specs.View.{kept_data, kept_elements}
use Rattle.walrus_model.specs.Abstract.{ActiveData, ActiveElements, DataKind, DataSegment, DeclaredElements, Element, ElementKind, Memory, PassiveData, PassiveElements, Table}
use Rattle.walrus_model.specs.Reads.{declared}
use Rattle.walrus_model.specs.Sections.{data_kind, data_of, data_segments_of, element_kind, element_of, elements_of, imported, imported_memory, imported_table, is_on_memory, is_on_table, memories_of, memory_of, passes, table_of, tables_of}
use Rattle.walrus_reading.specs.Held.{HoldsMemory, HoldsTable, memory_keeps, none_kept, table_keeps}
use Rattle.walrus_reading.specs.Kept.{all_data_kept, AreOnLive, elements_kept, IsOnLive, keep_all, kept_from, memory_keeping, table_keeping}
use Rattle.walrus_reading.specs.Placed.{AddsPlaced, AllPlaced}
use Rattle.walrus_reading.specs.Stays.{DataStays, ElementStays, ModeStays, PlaceStays}
use Rattle.walrus_reading.proofs.Rows.{nothing_more, placed_length, placed_more}
use Rattle.walrus_reading.proofs.Becoming.{different, one_later}

-- ---- one more segment is kept

later_same : (n e : ℕ) (b c : Bool) → (suc n == suc e) ≡ b → (n == e) ≡ c → c ≡ b
later_same n e true true p q = refl
later_same n e false false p q = refl
later_same n e true false p q = absurd (eqb-false n e q (let same : suc n ≡ suc e = eqb-true (suc n) (suc e) p in omega (arith, same)))
later_same n e false true p q = absurd (eqb-false (suc n) (suc e) p (ap suc (eqb-true n e q)))

also : (b : Bool) → b ≡ (false || (b && true))
also true = refl
also false = refl

not_also : (a b c : Bool) → c ≡ false → a ≡ (a || (b && c))
not_also true b c e = refl
not_also false true c e = sym e
not_also false false c e = refl

passes_next : {K : Type 0} (test : K → Bool) (xs : List K) (x : K) (e : ℕ) → passes test (slice_get (xs ++ x ∷ []) e) ≡ (passes test (slice_get xs e) || (test x && length xs == e))
passes_next test [] x zero = also (test x)
passes_next test [] x (suc e) = not_also false (test x) (0 == suc e) (different 0 (suc e) (0 == suc e) (λ same. omega (arith, same)) refl)
passes_next test (z ∷ xs) x zero = not_also (test z) (test x) (length (z ∷ xs) == 0) (different (length (z ∷ xs)) 0 (length (z ∷ xs) == 0) (λ same. omega (arith, same)) refl)
passes_next test (z ∷ xs) x (suc e) =
    passes_next test xs x e ∙ ap (λ (b : Bool). passes test (slice_get xs e) || (test x && b)) (later_same (length xs) e (suc (length xs) == suc e) (length xs == e) refl refl)

-- which of these segments are kept: those that are on the item of this number
abbrev pub those_on : {K : Type 0} → (on : ℕ → K → Bool) → List K → (item segment : ℕ) → Bool
those_on on all item segment = passes (on item) (slice_get all segment)

-- ---- items that are held are so, with what they keep then

module _ {X K Y : Type 0} (keeping : Bool → ℕ → X → X) (on : ℕ → K → Bool) (Holds : (kept : (item segment : ℕ) → Bool) → ℕ → Y → Option X → Type 0)
    (step : (kept next : (item segment : ℕ) → Bool) (too : Bool) (d k : ℕ) (y : Y) (slot : Option X) → ((e : ℕ) → next k e ≡ (kept k e || (too && d == e))) → Holds kept k y slot → Holds next k y (option_map (keeping too d) slot)) where
  held_next : (kept next : (item segment : ℕ) → Bool) (test : ℕ → Bool) (d : ℕ) → ((n e : ℕ) → next n e ≡ (kept n e || (test n && d == e))) → (k : ℕ) (ys : List Y) (slots : List (Option X)) → AllPlaced (Holds kept) k ys slots
      → AllPlaced (Holds next) k ys (kept_from keeping k test d slots)
  held_next kept next test d more k [] [] h = tt
  held_next kept next test d more k [] (s ∷ slots) h = absurd h
  held_next kept next test d more k (y ∷ ys) [] h = absurd h
  held_next kept next test d more k (y ∷ ys) (s ∷ slots) h = (step kept next (test k) d k y s (more k) h.0, held_next kept next test d more (k + 1) ys slots h.1)

  held_after : (before after : List K) (n : ℕ) (ys : List Y) (slots : List (Option X)) → n ≡ length before → AllPlaced (Holds (those_on on before)) 0 ys slots
      → AllPlaced (Holds (those_on on (before ++ after))) 0 ys (keep_all keeping on n after slots)
  held_after before [] n ys slots at h = subst (λ (l : List K). AllPlaced (Holds (those_on on l)) 0 ys slots) (sym (append-nil before)) h
  held_after before (x ∷ after) n ys slots at h =
      let test : ℕ → Bool = λ i. on i x in
      let one : AllPlaced (Holds (those_on on (before ++ x ∷ []))) 0 ys (kept_from keeping 0 test n slots) =
      held_next (those_on on before) (those_on on (before ++ x ∷ [])) test n
      (λ i e. passes_next (on i) before x e ∙ ap (λ (p : ℕ). those_on on before i e || (test i && p == e)) (sym at)) 0 ys slots h in
      subst (λ (l : List K). AllPlaced (Holds (those_on on l)) 0 ys (keep_all keeping on (n + 1) after (kept_from keeping 0 test n slots))) (append_assoc before (x ∷ []) after)
      (held_after (before ++ x ∷ []) after (n + 1) ys (kept_from keeping 0 test n slots) (omega (arith, at, length-append before (x ∷ []))) one)

  all_kept : (xs : List K) (ys : List Y) (slots : List (Option X)) → AllPlaced (Holds none_kept) 0 ys slots → AllPlaced (Holds (those_on on xs)) 0 ys (keep_all keeping on 0 xs slots)
  all_kept xs ys slots h = held_after [] xs 0 ys slots refl h

-- ---- items stay where they are, and one more segment behind those that are kept

module _ {X K : Type 0} (keeping : Bool → ℕ → X → X) (on : ℕ → K → Bool) where
  live_next : (test : ℕ → Bool) (d k : ℕ) (slots : List (Option X)) (i : ℕ) → IsLive slots i → IsLive (kept_from keeping k test d slots) i
  live_next test d k [] i h = h
  live_next test d k (None ∷ slots) zero h = h
  live_next test d k (Some x ∷ slots) zero h = refl
  live_next test d k (s ∷ slots) (suc i) h = live_next test d (k + 1) slots i h

  -- an item that was there is so
  pub live_after : (xs : List K) (d : ℕ) (slots : List (Option X)) (i : ℕ) → IsLive slots i → IsLive (keep_all keeping on d xs slots) i
  live_after [] d slots i h = h
  live_after (x ∷ xs) d slots i h = live_after xs (d + 1) (kept_from keeping 0 (λ n. on n x) d slots) i (live_next (λ n. on n x) d 0 slots i h)

  keep_next : (xs : List K) (x : K) (d n : ℕ) (slots : List (Option X)) → n ≡ d + length xs → keep_all keeping on d (xs ++ x ∷ []) slots ≡ kept_from keeping 0 (λ i. on i x) n (keep_all keeping on d xs slots)
  keep_next [] x d n slots at = ap (λ (k : ℕ). kept_from keeping 0 (λ i. on i x) k slots) (let e : d ≡ n = omega (arith, at) in e)
  keep_next (z ∷ xs) x d n slots at = keep_next xs x (d + 1) n (kept_from keeping 0 (λ i. on i z) d slots) (omega (arith, at))

  -- ---- a loop over entries, each of which is kept

  module _ {V : Type 0} (says : V → K) (raw : List V) (first : ℕ) (slots : List (Option X)) where
    -- one more of them is kept
    pub kept_one_more : (i : ℕ) (x : V) (n : ℕ) (old new : List (Option X)) → i < length raw → x ≡ get_or raw i x → old ≡ keep_all keeping on first (map says (take i raw)) slots → n ≡ first + length (map says (take i raw))
        → new ≡ kept_from keeping 0 (λ y. on y (says x)) n old → new ≡ keep_all keeping on first (map says (take (i + 1) raw)) slots
    kept_one_more i x n old new lt is before at one =
        let so_far : List K = map says (take i raw) in
        let more : map says (take (i + 1) raw) ≡ so_far ++ says x ∷ [] =
        ap (map says) (take_more raw i x lt) ∙ map-append says (take i raw) (get_or raw i x ∷ []) ∙ ap (λ (y : V). so_far ++ says y ∷ []) (sym is) in
        one ∙ ap (kept_from keeping 0 (λ y. on y (says x)) n) before ∙ sym (keep_next so_far (says x) first n slots at) ∙ ap (λ (l : List K). keep_all keeping on first l slots) (sym more)

    -- all of them are kept
    pub kept_to_end : (i : ℕ) (all : List (Option X)) → length raw ≤ i → all ≡ keep_all keeping on first (map says (take i raw)) slots → all ≡ keep_all keeping on first (map says raw) slots
    kept_to_end i all le h = h ∙ ap (λ (l : List V). keep_all keeping on first (map says l) slots) (take_all i raw le)

-- how many stand then
pub added_many : {A B : Type 0} (R : ℕ → A → B → Type 0) (xs : List A) (old new : List B) → AddsPlaced R xs old new → length new ≡ length old + length xs
added_many R xs old new (more, (is, placed)) = omega (arith, ap length is, length-append old more, placed_length R (length old) xs more placed)

-- ---- one item keeps a segment

no_more : (a : Bool) (b : Bool) → a ≡ (a || (false && b))
no_more true b = refl
no_more false b = refl

once_more : (a : Bool) → true ≡ (a || (true && true))
once_more true = refl
once_more false = refl

as_before : (a : Bool) → a ≡ (a || (true && false))
as_before true = refl
as_before false = refl

module _ {I : Type 0} (old new : IdHashSet I) (d : ℕ) (h : Adds old new d) where
  added_at : (e : ℕ) (b : Bool) → (d == e) ≡ b → has_id new e ≡ (has_id old e || (true && b))
  added_at e true q = ap (λ (n : ℕ). has_id new n) (sym (eqb-true d e q)) ∙ h.added ∙ once_more (has_id old e)
  added_at e false q = h.others e (λ same. eqb-false d e q (sym same)) ∙ as_before (has_id old e)

  -- a set that an id is added to holds it beside those that it held
  pub added_ids : has_id new ≡ (λ e. has_id old e || (true && d == e))
  added_ids = fun_ext (λ e. added_at e (d == e) refl)

-- a memory, or a table, that doesn't keep a segment stays
pub memory_stays : (d : ℕ) (m : MemoryValue) → m ≡ memory_keeping false d m
memory_stays d m = ap (λ (s : ℕ → Bool). record m { segments = s }) (fun_ext (λ x. no_more (m.segments x) (d == x)))

pub table_stays : (d : ℕ) (t : TableValue) → t ≡ table_keeping false d t
table_stays d t = ap (λ (s : ℕ → Bool). record t { segments = s }) (fun_ext (λ x. no_more (t.segments x) (d == x)))

module _ {X : Type 0} (keeping : Bool → ℕ → X → X) (unkept : (d : ℕ) (x : X) → x ≡ keeping false d x) where
  not_kept : (too : Bool) (d : ℕ) (x : X) → too ≡ false → x ≡ keeping too d x
  not_kept true d x e = absurd cc
  not_kept false d x e = unkept d x

  -- what is on no item is kept by none
  kept_by_none : (test : ℕ → Bool) → ((n : ℕ) → test n ≡ false) → (d k : ℕ) (slots : List (Option X)) → slots ≡ kept_from keeping k test d slots
  kept_by_none test none d k [] = refl
  kept_by_none test none d k (None ∷ slots) = ap (λ (l : List (Option X)). None ∷ l) (kept_by_none test none d (k + 1) slots)
  kept_by_none test none d k (Some x ∷ slots) = ap₂ (λ (y : X) (l : List (Option X)). Some y ∷ l) (not_kept (test k) d x (none k)) (kept_by_none test none d (k + 1) slots)

  module _ (n d : ℕ) where
    abbrev here : ℕ → Bool
    here y = n == y

    slot_stays : (k : ℕ) (slot : Option X) → (n ≡ k → ⊥) → slot ≡ option_map (keeping (here k) d) slot
    slot_stays k None apart = refl
    slot_stays k (Some x) apart = ap Some (not_kept (n == k) d x (different n k (n == k) apart refl))

    rest_stays : (k : ℕ) (slots : List (Option X)) → n < k → slots ≡ kept_from keeping k here d slots
    rest_stays k [] lt = refl
    rest_stays k (s ∷ slots) lt = ap₂ (λ (o : Option X) (l : List (Option X)). o ∷ l) (slot_stays k s (λ e. omega (arith, e, lt))) (rest_stays (k + 1) slots (omega (arith, lt)))

    is_here : (k : ℕ) (b : Bool) → n ≡ k → (n == k) ≡ b → true ≡ b
    is_here k true same e = refl
    is_here k false same e = absurd (eqb-false n k e same)

    -- where the item of this number is put back with the segment, it alone keeps it
    pub set_kept : (k p : ℕ) (slots : List (Option X)) (v : X) → n ≡ k + p → item_at slots p ≡ Some v → slice_set slots p (Some (keeping true d v)) ≡ kept_from keeping k here d slots
    set_kept k p [] v at is = absurd cc
    set_kept k zero (s ∷ slots) v at is =
        ap₂ (λ (o : Option X) (l : List (Option X)). o ∷ l)
        (ap (λ (b : Bool). Some (keeping b d v)) (is_here k (n == k) (omega (arith, at)) refl) ∙ ap (option_map (keeping (here k) d)) (sym is))
        (rest_stays (k + 1) slots (omega (arith, at)))
    set_kept k (suc p) (s ∷ slots) v at is =
        ap₂ (λ (o : Option X) (l : List (Option X)). o ∷ l) (slot_stays k s (λ e. omega (arith, e, at))) (set_kept (k + 1) p slots v (omega (arith, at)) is)

-- ---- items that are placed

module _ {X Y : Type 0} (Holds : (kept : (item segment : ℕ) → Bool) → ℕ → Y → Option X → Type 0) where
  -- they are there
  placed_live : (there : (kept : (item segment : ℕ) → Bool) (k : ℕ) (y : Y) (slot : Option X) → Holds kept k y slot → IsSome slot) (kept : (item segment : ℕ) → Bool) (k : ℕ) (ys : List Y) (slots : List (Option X)) (i : ℕ)
      → i < length ys → AllPlaced (Holds kept) k ys slots → IsLive slots i
  placed_live there kept k [] slots i lt h = absurd (omega (arith, lt))
  placed_live there kept k (y ∷ ys) [] i lt h = absurd h
  placed_live there kept k (y ∷ ys) (s ∷ slots) zero lt h = there kept k y s h.0
  placed_live there kept k (y ∷ ys) (s ∷ slots) (suc i) lt h = placed_live there kept (k + 1) ys slots i (omega (arith, lt)) h.1

  -- what they are seen to keep
  all_seen : (seen : Option X → ℕ → Bool) (nothing : (d : ℕ) → seen None d ≡ false) (shows : (kept : (item segment : ℕ) → Bool) (k : ℕ) (y : Y) (slot : Option X) (d : ℕ) → Holds kept k y slot → seen slot d ≡ kept k d)
      (kept : (item segment : ℕ) → Bool) (k : ℕ) (ys : List Y) (slots : List (Option X)) → AllPlaced (Holds kept) k ys slots → (i d : ℕ) → (length ys ≤ i → kept (k + i) d ≡ false) → seen (item_at slots i) d ≡ kept (k + i) d
  all_seen seen nothing shows kept k [] [] h i d past = nothing d ∙ sym (past (omega arith))
  all_seen seen nothing shows kept k [] (s ∷ slots) h i d past = absurd h
  all_seen seen nothing shows kept k (y ∷ ys) [] h i d past = absurd h
  all_seen seen nothing shows kept k (y ∷ ys) (s ∷ slots) h zero d past = shows kept k y s d h.0 ∙ ap (λ (n : ℕ). kept n d) (nothing_more k)
  all_seen seen nothing shows kept k (y ∷ ys) (s ∷ slots) h (suc i) d past =
      all_seen seen nothing shows kept (k + 1) ys slots h.1 i d (λ le. ap (λ (n : ℕ). kept n d) (one_later k i) ∙ past (omega (arith, le))) ∙ ap (λ (n : ℕ). kept n d) (one_later k i)

-- an item that no segment is on keeps none
on_none : {K S : Type 0} (on : ℕ → K → Bool) (says : S → K) (P : S → Type 0) (i : ℕ) → ((s : S) → P s → on i (says s) ≡ false) → (all : List S) → All P all → (e : ℕ) → those_on on (map says all) i e ≡ false
on_none on says P i apart [] h e = refl
on_none on says P i apart (s ∷ all) h zero = apart s (All-head P s all h)
on_none on says P i apart (s ∷ all) h (suc e) = on_none on says P i apart all (All-tail P s all h) e

-- an index that is declared is below the count
below_back : (count i : ℕ) (b : Bool) → nat_lt i count ≡ b → (if b then Some i else None) ≡ Some i → i < count
below_back count i true e is = ltb-true i count e
below_back count i false e is = absurd cc

-- ---- memories

-- the data is active in the memory of this number
abbrev pub on_memory : ℕ → DataSegment → Bool
on_memory y d = is_on_memory y d.kind

-- data stays active in a memory that is there
pub on_live_after : (xs : List DataSegment) (d : ℕ) (slots : List (Option MemoryValue)) (kind : DataKind) → IsOnLive slots kind → IsOnLive (all_data_kept d xs slots) kind
on_live_after xs d slots (ActiveData y offset) h = live_after memory_keeping on_memory xs d slots y h
on_live_after xs d slots PassiveData h = tt

-- data that isn't active is kept by no memory
pub passive_kept : (kind : DataKind) (d k : ℕ) (slots : List (Option MemoryValue)) → kind ≡ PassiveData → slots ≡ kept_from memory_keeping k (λ y. is_on_memory y kind) d slots
passive_kept kind d k slots e = kept_by_none memory_keeping memory_stays (λ y. is_on_memory y kind) (λ y. ap (is_on_memory y) e) d k slots

held_memory : (kept next : (memory segment : ℕ) → Bool) (too : Bool) (d k : ℕ) (m : Memory) (slot : Option MemoryValue) → ((e : ℕ) → next k e ≡ (kept k e || (too && d == e))) → HoldsMemory kept k m slot
    → HoldsMemory next k m (option_map (memory_keeping too d) slot)
held_memory kept next too d k m slot more h = record {
  value = memory_keeping too d h.value;
  is = ap (option_map (memory_keeping too d)) h.is;
  own_id = h.own_id;
  read = h.read;
  segments = λ e. ap (λ (b : Bool). b || (too && d == e)) (h.segments e) ∙ sym (more e);
  unnamed = h.unnamed;
}

memory_there : (kept : (memory segment : ℕ) → Bool) (k : ℕ) (m : Memory) (slot : Option MemoryValue) → HoldsMemory kept k m slot → IsSome slot
memory_there kept k m slot h = subst (λ (o : Option MemoryValue). IsSome o) (sym h.is) refl

-- what memories are seen to keep
pub kept_seen : (kept : (memory segment : ℕ) → Bool) (k : ℕ) (ms : List Memory) (slots : List (Option MemoryValue)) → AllPlaced (HoldsMemory kept) k ms slots → (y d : ℕ) → (length ms ≤ y → kept (k + y) d ≡ false) → kept_data (item_at slots y) d ≡ kept (k + y) d
kept_seen kept k ms slots h y d past = all_seen HoldsMemory kept_data (λ e. refl) (λ own n m slot e held. ap (λ (o : Option MemoryValue). kept_data o e) held.is ∙ held.segments e) kept k ms slots h y d past

memory_past : (r : wire.Module) (y : ℕ) (mode : entries.DataMode) → length (memories_of r) ≤ y → ModeStays (declared r) mode → is_on_memory y (data_kind mode) ≡ false
memory_past r y (entries.ActiveData memory offset) le stays =
    let lt : memory < length (memories_of r) = below_back (length (memories_of r)) memory (nat_lt memory (length (memories_of r))) refl stays.0 in
    different memory y (memory == y) (λ e. omega (arith, e, lt, le)) refl
memory_past r y entries.PassiveData le stays = refl

-- a memory that isn't there keeps none
pub none_past : (r : wire.Module) → All (DataStays (declared r)) r.data_segments → (y e : ℕ) → length (memories_of r) ≤ y → memory_keeps (data_segments_of r) y e ≡ false
none_past r stay y e le = on_none on_memory data_of (DataStays (declared r)) y (λ d stays. memory_past r y d.mode le stays) r.data_segments stay e

-- the memories of a module, once its data segments are read
module _ (r : wire.Module) (brought middle : List (Option MemoryValue)) (held : AllPlaced (HoldsMemory none_kept) 0 (imported imported_memory 0 r.imports) brought)
    (added : AddsPlaced (HoldsMemory none_kept) (map memory_of r.memories) brought middle) where
  all_memories : AllPlaced (HoldsMemory none_kept) 0 (memories_of r) middle
  all_memories = placed_more (HoldsMemory none_kept) (imported imported_memory 0 r.imports) (map memory_of r.memories) brought middle held added

  -- they keep the data that is active in them
  pub memories_kept : (first : ℕ) (segments : List entries.Segment) (new : List (Option MemoryValue)) → first ≡ 0 → segments ≡ r.data_segments → new ≡ all_data_kept first (map data_of segments) middle
      → AllPlaced (HoldsMemory (memory_keeps (data_segments_of r))) 0 (memories_of r) new
  memories_kept first segments new none same is =
      let kept : new ≡ all_data_kept 0 (data_segments_of r) middle = is ∙ ap₂ (λ (n : ℕ) (l : List entries.Segment). all_data_kept n (map data_of l) middle) none same in
      subst (λ (l : List (Option MemoryValue)). AllPlaced (HoldsMemory (memory_keeps (data_segments_of r))) 0 (memories_of r) l) (sym kept)
      (all_kept memory_keeping on_memory HoldsMemory held_memory (data_segments_of r) (memories_of r) middle all_memories)

  on_live : (mode : entries.DataMode) → ModeStays (declared r) mode → IsOnLive middle (data_kind mode)
  on_live (entries.ActiveData memory offset) stays =
      placed_live HoldsMemory memory_there none_kept 0 (memories_of r) middle memory (below_back (length (memories_of r)) memory (nat_lt memory (length (memories_of r))) refl stays.0) all_memories
  on_live entries.PassiveData stays = tt

  -- the memories of active data are there
  pub data_on_live : (names : Lookup) → names ≡ declared r → (segments : List entries.Segment) → segments ≡ r.data_segments → All (DataStays names) r.data_segments → All (λ d. IsOnLive middle (data_kind d.mode)) segments
  data_on_live names same segments is stay =
      let all : All (DataStays (declared r)) segments = subst (λ (l : List entries.Segment). All (DataStays (declared r)) l) (sym is) (subst (λ (n : Lookup). All (DataStays n) r.data_segments) same stay) in
      λ i d lt. on_live (get_or segments i d).mode (all i d lt)

-- ---- tables

-- the elements are active in the table of this number
abbrev pub on_table : ℕ → Element → Bool
on_table t e = is_on_table t e.kind

-- elements stay active in a table that is there
pub are_on_live_after : (xs : List Element) (d : ℕ) (slots : List (Option TableValue)) (kind : ElementKind) → AreOnLive slots kind → AreOnLive (elements_kept d xs slots) kind
are_on_live_after xs d slots (ActiveElements t offset) h = live_after table_keeping on_table xs d slots t h
are_on_live_after xs d slots PassiveElements h = tt
are_on_live_after xs d slots DeclaredElements h = tt

-- elements that aren't active are kept by no table
pub inactive_kept : (kind : ElementKind) → ((t : ℕ) → is_on_table t kind ≡ false) → (d k : ℕ) (slots : List (Option TableValue)) → slots ≡ kept_from table_keeping k (λ t. is_on_table t kind) d slots
inactive_kept kind none d k slots = kept_by_none table_keeping table_stays (λ t. is_on_table t kind) none d k slots

held_table : (kept next : (table segment : ℕ) → Bool) (too : Bool) (d k : ℕ) (t : Table) (slot : Option TableValue) → ((e : ℕ) → next k e ≡ (kept k e || (too && d == e))) → HoldsTable kept k t slot
    → HoldsTable next k t (option_map (table_keeping too d) slot)
held_table kept next too d k t slot more h = record {
  value = table_keeping too d h.value;
  is = ap (option_map (table_keeping too d)) h.is;
  own_id = h.own_id;
  read = h.read;
  short = h.short;
  segments = λ e. ap (λ (b : Bool). b || (too && d == e)) (h.segments e) ∙ sym (more e);
  unnamed = h.unnamed;
}

table_there : (kept : (table segment : ℕ) → Bool) (k : ℕ) (t : Table) (slot : Option TableValue) → HoldsTable kept k t slot → IsSome slot
table_there kept k t slot h = subst (λ (o : Option TableValue). IsSome o) (sym h.is) refl

-- what tables are seen to keep
pub tables_seen : (kept : (table segment : ℕ) → Bool) (k : ℕ) (ts : List Table) (slots : List (Option TableValue)) → AllPlaced (HoldsTable kept) k ts slots → (t e : ℕ) → (length ts ≤ t → kept (k + t) e ≡ false)
    → kept_elements (item_at slots t) e ≡ kept (k + t) e
tables_seen kept k ts slots h t e past = all_seen HoldsTable kept_elements (λ d. refl) (λ own n y slot d held. ap (λ (o : Option TableValue). kept_elements o d) held.is ∙ held.segments d) kept k ts slots h t e past

table_past : (r : wire.Module) (t : ℕ) (mode : entries.ElementMode) → length (tables_of r) ≤ t → PlaceStays (declared r) mode → is_on_table t (element_kind mode) ≡ false
table_past r t (entries.ActiveElements table offset) le stays =
    let at : ℕ = unwrap_or table 0 in
    let lt : at < length (tables_of r) = below_back (length (tables_of r)) at (nat_lt at (length (tables_of r))) refl stays.0 in
    different at t (at == t) (λ e. omega (arith, e, lt, le)) refl
table_past r t entries.PassiveElements le stays = refl
table_past r t entries.DeclaredElements le stays = refl

-- a table that isn't there keeps none
pub no_elements_past : (r : wire.Module) → All (ElementStays (declared r)) r.elements → (t e : ℕ) → length (tables_of r) ≤ t → table_keeps (elements_of r) t e ≡ false
no_elements_past r stay t e le = on_none on_table element_of (ElementStays (declared r)) t (λ x stays. table_past r t x.mode le stays.0) r.elements stay e

-- the tables of a module, once its element segments are read
module _ (r : wire.Module) (brought middle : List (Option TableValue)) (held : AllPlaced (HoldsTable none_kept) 0 (imported imported_table 0 r.imports) brought)
    (added : AddsPlaced (HoldsTable none_kept) (map table_of r.tables) brought middle) where
  all_tables : AllPlaced (HoldsTable none_kept) 0 (tables_of r) middle
  all_tables = placed_more (HoldsTable none_kept) (imported imported_table 0 r.imports) (map table_of r.tables) brought middle held added

  -- they keep the elements that are active in them
  pub tables_kept : (first : ℕ) (segments : List entries.Element) (new : List (Option TableValue)) → first ≡ 0 → segments ≡ r.elements → new ≡ elements_kept first (map element_of segments) middle
      → AllPlaced (HoldsTable (table_keeps (elements_of r))) 0 (tables_of r) new
  tables_kept first segments new none same is =
      let kept : new ≡ elements_kept 0 (elements_of r) middle = is ∙ ap₂ (λ (n : ℕ) (l : List entries.Element). elements_kept n (map element_of l) middle) none same in
      subst (λ (l : List (Option TableValue)). AllPlaced (HoldsTable (table_keeps (elements_of r))) 0 (tables_of r) l) (sym kept)
      (all_kept table_keeping on_table HoldsTable held_table (elements_of r) (tables_of r) middle all_tables)

  are_on_live : (mode : entries.ElementMode) → PlaceStays (declared r) mode → AreOnLive middle (element_kind mode)
  are_on_live (entries.ActiveElements table offset) stays =
      let at : ℕ = unwrap_or table 0 in
      placed_live HoldsTable table_there none_kept 0 (tables_of r) middle at (below_back (length (tables_of r)) at (nat_lt at (length (tables_of r))) refl stays.0) all_tables
  are_on_live entries.PassiveElements stays = tt
  are_on_live entries.DeclaredElements stays = tt

  -- the tables of active elements are there
  pub elements_on_live : (names : Lookup) → names ≡ declared r → (segments : List entries.Element) → segments ≡ r.elements → All (ElementStays names) r.elements → All (λ e. AreOnLive middle (element_kind e.mode)) segments
  elements_on_live names same segments is stay =
      let all : All (ElementStays (declared r)) segments = subst (λ (l : List entries.Element). All (ElementStays (declared r)) l) (sym is) (subst (λ (n : Lookup). All (ElementStays n) r.elements) same stay) in
      λ i d lt. are_on_live (get_or segments i d).mode (all i d lt).0
