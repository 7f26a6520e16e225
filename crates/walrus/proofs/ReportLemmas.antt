-- The report: numbers that are counted place by place, and what the module in memory says of the one that was read.
use Rattle.std.proofs.Common.{◌≡◌, ℕ, zero, suc, ◌+◌, ◌<◌, Bool, true, false, not, cond, List, [], ◌∷◌, ◌++◌, length, get_or, filter, codes, decimal, append_assoc, inl, inr, Option, refl, sym, ap, ◌∙◌, subst, arith}
use Rattle.std.specs.Prelude.{AllPairs, Contains, IsSome, count_by, ◌↔◌}
use Rattle.std.specs.List.{range_with_len}
use Rattle.std.proofs.lemmas.Bool.{false≢true, false_from_ne_true, not_from_false, not_from_true, and_from as and_both, and_parts}
use Rattle.std.proofs.lemmas.List.Elements.{All-contains, filter_passes}
use Rattle.std.proofs.lemmas.List.FromFn.{get_or-range_with_len, length-range_with_len}
use Rattle.std.proofs.lemmas.List.Kept.{AllPairs-filter}
use Rattle.std.proofs.lemmas.List.Sums.{length-filter}
use Rattle.walrus_base.specs.Arena.{item_at}
use Rattle.walrus_base.specs.IdSet.{has_id}
use Rattle.walrus_base.specs.Operators.{Space, Functions, Tables, Memories, Tags, Globals, Elements, DataSegments, Item}
use Rattle.walrus_items.specs.Data.{data_segments}
use Rattle.walrus_items.specs.Elements.{elements}
use Rattle.walrus_items.specs.Functions.{functions}
use Rattle.walrus_items.specs.Globals.{globals}
use Rattle.walrus_items.specs.Memories.{memories}
use Rattle.walrus_items.specs.Tables.{tables}
use Rattle.walrus_items.specs.Tags.{tags}
use Rattle.walrus_model.specs.Abstract.{Abstract, Custom}
use Rattle.walrus_model.specs.Kept.{Kept}
use Rattle.walrus_model.specs.Live.{IsLive}
use Rattle.walrus_base.proofs.Lists.{Contains-head, Contains-tail}
use Rattle.walrus_base.proofs.Lookups.{still_some}
use Rattle.walrus_contents.specs.View.{contents_view, data_of, element_of, function, global_of, memory_of, table_of, tag_of}
use Rattle.walrus_contents.specs.declared.parts.Contents.{Contents}
use Rattle.walrus_theorem.proofs.SameItems.{with_own}
use Rattle.walrus_theorem.specs.Report.{line, Counts, IsLine, IsReport}
use Rattle.walrus.proofs.Marking.{below}
use Rattle.walrus.specs.Marked.{MarksKept, ReachesSound}
use Rattle.walrus.specs.Reported.{count_where, is_counted}
use Rattle.walrus.specs.declared.passes.used.Used.{Used}
use Rattle.walrus_base.proofs.Standing.{was_some as was_there}

-- ---- the text of a line, in which all stands in front of the rest

pub nested : (word text : List ℕ) (kept dropped : ℕ) → text ≡ word ++ (codes " kept " ++ (decimal kept ++ (codes " dropped " ++ (decimal dropped ++ codes "\n")))) → text ≡ line word kept dropped
nested word text kept dropped is =
    is
    ∙ sym (append_assoc word (codes " kept ") (decimal kept ++ (codes " dropped " ++ (decimal dropped ++ codes "\n"))))
    ∙ sym (append_assoc (word ++ codes " kept ") (decimal kept) (codes " dropped " ++ (decimal dropped ++ codes "\n")))
    ∙ sym (append_assoc (word ++ codes " kept " ++ decimal kept) (codes " dropped ") (decimal dropped ++ codes "\n"))
    ∙ sym (append_assoc (word ++ codes " kept " ++ decimal kept ++ codes " dropped ") (decimal dropped) (codes "\n"))

-- seven lines, one behind another
seven : (t a b c d e f g h u v w x y z : List ℕ) → t ≡ [] → a ≡ t ++ h → b ≡ a ++ u → c ≡ b ++ v → d ≡ c ++ w → e ≡ d ++ x → f ≡ e ++ y → g ≡ f ++ z
    → g ≡ h ++ u ++ v ++ w ++ x ++ y ++ z
seven t a b c d e f g h u v w x y z none first second third fourth fifth sixth seventh =
    seventh ∙ ap (λ s. s ++ z) (sixth ∙ ap (λ s. s ++ y) (fifth ∙ ap (λ s. s ++ x) (fourth ∙ ap (λ s. s ++ w) (third ∙ ap (λ s. s ++ v) (second
    ∙ ap (λ s. s ++ u) (first ∙ ap (λ s. s ++ h) none))))))

-- ---- the numbers from one on that pass a test

module _ (p : ℕ → Bool) where
  abbrev picked : ℕ → ℕ → List ℕ
  picked a n = filter p (range_with_len a n)

  range_rises : (a n : ℕ) → AllPairs (λ i j. i < j) (range_with_len a n)
  range_rises a n i j d less low =
      let long : length (range_with_len a n) ≡ n = length-range_with_len a n in
      let first : get_or (range_with_len a n) i d ≡ a + i = get_or-range_with_len a n i d (omega (arith, long, less, low)) in
      let second : get_or (range_with_len a n) j d ≡ a + j = get_or-range_with_len a n j d (omega (arith, long, low)) in
      omega (arith, first, second, less)

  picked_rise : (a n : ℕ) → AllPairs (λ i j. i < j) (picked a n)
  picked_rise a n = AllPairs-filter (λ i j. i < j) p (range_with_len a n) (range_rises a n)

  in_picked : (n a m k : ℕ) → k ≡ a + m → m < n → p k ≡ true → Contains (picked a n) k
  in_picked zero a m k e lt h = absurd (omega (arith, lt))
  in_picked (suc n) a zero k e lt h = by (p a) refl
    where
      same : a ≡ k
      same = omega (arith, e)

      by : (t : Bool) → p a ≡ t → Contains (cond t (a ∷ picked (a + 1) n) (picked (a + 1) n)) k
      by true is = subst (λ (x : ℕ). Contains (a ∷ picked (a + 1) n) x) same (Contains-head a (picked (a + 1) n))
      by false is = absurd (false≢true (sym is ∙ ap p same ∙ h))
  in_picked (suc n) a (suc m) k e lt h = by (p a) (in_picked n (a + 1) m k (omega (arith, e)) (omega (arith, lt)) h)
    where
      by : (t : Bool) → Contains (picked (a + 1) n) k → Contains (cond t (a ∷ picked (a + 1) n) (picked (a + 1) n)) k
      by true later = Contains-tail a k (picked (a + 1) n) later
      by false later = later

  picked_pass : (a n k : ℕ) → Contains (picked a n) k → p k ≡ true
  picked_pass a n k has = All-contains (λ (x : ℕ). p x ≡ true) (picked a n) k (filter_passes p (range_with_len a n)) has

  -- as many numbers below n pass as are counted
  pub counted_below : (n : ℕ) (P : ℕ → Type 0) → ((i : ℕ) → p i ≡ true → P i) → ((i : ℕ) → P i → (p i ≡ true) × (i < n)) → Counts P (count_by p (range_with_len 0 n))
  counted_below n P there back = record {
    numbers = picked 0 n;
    rising = picked_rise 0 n;
    are = λ i. (λ has. there i (picked_pass 0 n i has), λ h. in_picked n 0 i i (omega arith) (back i h).1 (back i h).0);
    long = sym (length-filter p (range_with_len 0 n));
  }

-- ---- what is counted of a collection

module _ {T : Type 0} (keeps : ℕ → Bool) (asked : Bool) (slots : List (Option T)) where
  -- as many are counted as numbers pass
  counted : (P : ℕ → Type 0) → ((i : ℕ) → is_counted keeps asked slots i ≡ true → P i) → ((i : ℕ) → P i → is_counted keeps asked slots i ≡ true) → Counts P (count_where keeps asked slots)
  counted P there back = counted_below (is_counted keeps asked slots) (length slots) P there (λ i h. (back i h, below slots i (and_parts _ _ (back i h)).0))

module _ {T : Type 0} (keeps : ℕ → Bool) (slots : List (Option T)) (K L : ℕ → Type 0) (kept : (i : ℕ) → (keeps i ≡ true) ↔ K i)
    (live : (i : ℕ) → IsSome (item_at slots i) → L i) (was : (i : ℕ) → L i → IsSome (item_at slots i)) (kept_live : (i : ℕ) → K i → L i) where
  kept_count : Counts K (count_where keeps true slots)
  kept_count = counted keeps true slots K (λ i h. (kept i).0 (and_parts _ _ h).1) (λ i k. and_both _ _ (was i (kept_live i k)) ((kept i).1 k))

  dropped_count : Counts (λ i. L i × (K i → ⊥)) (count_where keeps false slots)
  dropped_count = counted keeps false slots (λ i. L i × (K i → ⊥))
      (λ i h. let both = and_parts _ _ h in (live i both.0, λ k. false≢true (sym (not_from_true (keeps i) ((kept i).1 k)) ∙ both.1)))
      (λ i h. and_both _ _ (was i h.0) (not_from_false (keeps i) (false_from_ne_true (keeps i) (λ is. h.1 ((kept i).0 is)))))

-- ---- the lines, of the module in memory

module _ (customs : List Custom) (roots : List Item) (held : Contents) (used : Used) where
  abbrev in_memory : Abstract
  in_memory = with_own (contents_view held) customs roots

  module _ (kept : MarksKept in_memory used) (sound : ReachesSound in_memory) where
    kept_live : (x : Item) → Kept in_memory x → IsLive in_memory x
    kept_live x (inl reached) = (sound x reached).live
    kept_live x (inr spare) = subst (λ (y : Item). IsLive in_memory y) (sym spare.is) spare.first.live

    module _ {T : Type 0} (space : Space) (keeps : ℕ → Bool) (slots : List (Option T)) (marked : (i : ℕ) → (keeps i ≡ true) ↔ Kept in_memory (space, i))
        (live : (i : ℕ) → IsSome (item_at slots i) → IsLive in_memory (space, i)) (was : (i : ℕ) → IsLive in_memory (space, i) → IsSome (item_at slots i)) where
      line_is : (word : List ℕ) → IsLine in_memory space word (line word (count_where keeps true slots) (count_where keeps false slots))
      line_is word = (
        count_where keeps true slots,
        (
          count_where keeps false slots,
          (
            record {
              kept_are = kept_count keeps slots (λ i. Kept in_memory (space, i)) (λ i. IsLive in_memory (space, i)) marked live was (λ i. kept_live (space, i));
              dropped_are = dropped_count keeps slots (λ i. Kept in_memory (space, i)) (λ i. IsLive in_memory (space, i)) marked live was (λ i. kept_live (space, i));
            },
            refl,
          ),
        ),
      )

    -- the line of these slots
    abbrev line_for : {T : Type 0} → (word : List ℕ) → (keeps : ℕ → Bool) → List (Option T) → List ℕ
    line_for word keeps slots = line word (count_where keeps true slots) (count_where keeps false slots)

    pub report_is : (t a b c d e f text : List ℕ) → t ≡ []
        → a ≡ t ++ line_for (codes "functions") (has_id used.funcs) (functions held.funcs)
        → b ≡ a ++ line_for (codes "tables") (has_id used.tables) (tables held.tables)
        → c ≡ b ++ line_for (codes "memories") (has_id used.memories) (memories held.memories)
        → d ≡ c ++ line_for (codes "tags") (has_id used.tags) (tags held.tags)
        → e ≡ d ++ line_for (codes "globals") (has_id used.globals) (globals held.globals)
        → f ≡ e ++ line_for (codes "elements") (has_id used.elements) (elements held.elements)
        → text ≡ f ++ line_for (codes "data") (has_id used.data_) (data_segments held.data_)
        → IsReport in_memory text
    report_is t a b c d e f text none first second third fourth fifth sixth seventh = record {
      functions = line_for (codes "functions") (has_id used.funcs) (functions held.funcs);
      tables = _;
      memories = _;
      tags = _;
      globals = _;
      elements = _;
      data_segments = _;
      is = seven t a b c d e f text _ _ _ _ _ _ _ none first second third fourth fifth sixth seventh;
      functions_are = line_is Functions (has_id used.funcs) (functions held.funcs) (λ i. kept (Functions, i)) (λ i. still_some (function held.locals) _) (λ i. was_there (function held.locals) _) (codes "functions");
      tables_are = line_is Tables (has_id used.tables) (tables held.tables) (λ i. kept (Tables, i)) (λ i. still_some table_of _) (λ i. was_there table_of _) (codes "tables");
      memories_are = line_is Memories (has_id used.memories) (memories held.memories) (λ i. kept (Memories, i)) (λ i. still_some memory_of _) (λ i. was_there memory_of _) (codes "memories");
      tags_are = line_is Tags (has_id used.tags) (tags held.tags) (λ i. kept (Tags, i)) (λ i. still_some tag_of _) (λ i. was_there tag_of _) (codes "tags");
      globals_are = line_is Globals (has_id used.globals) (globals held.globals) (λ i. kept (Globals, i)) (λ i. still_some global_of _) (λ i. was_there global_of _) (codes "globals");
      elements_are = line_is Elements (has_id used.elements) (elements held.elements) (λ i. kept (Elements, i)) (λ i. still_some element_of _) (λ i. was_there element_of _) (codes "elements");
      data_segments_are = line_is DataSegments (has_id used.data_) (data_segments held.data_) (λ i. kept (DataSegments, i)) (λ i. still_some data_of _) (λ i. was_there data_of _) (codes "data");
    }
