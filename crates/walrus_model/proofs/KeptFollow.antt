-- What gc keeps follows a renaming.
use Rattle.std.proofs.Common.{◌≡◌, ℕ, zero, suc, ◌<◌, refl, sym, ap, ◌∙◌, subst, inl, inr, ⊎_elim, arith}
use Rattle.std.specs.Prelude.{Option, Some, None, IsSome, ◌⊎◌}
use Rattle.walrus_base.specs.Operators.{Space, Memories, DataSegments, Item}
use Rattle.walrus_model.specs.Abstract.{Abstract}
use Rattle.walrus_model.specs.Live.{IsLive}
use Rattle.walrus_model.specs.Reached.{Reached}
use Rattle.walrus_model.specs.Kept.{IsFirstMemory, IsSpareMemory, Kept}
use Rattle.walrus_model.specs.Renaming.{Renaming, renamed}
use Rattle.walrus_model.specs.Laws.{CarriesAll}
use Rattle.walrus_model.specs.Follows.{ReachedFollows, MemoriesRise, KeptFollows}
use Rattle.walrus_model.proofs.Steps.{live_under}

pub none_unless : {X : Type 0} (o : Option X) → (IsSome o → ⊥) → o ≡ None
none_unless None h = refl
none_unless (Some x) h = absurd (h refl)

pub not_none : {X : Type 0} (o : Option X) → IsSome o → o ≡ None → ⊥
not_none o there e = let no = subst IsSome e there in absurd (cc)

compared : (i j : ℕ) → (i < j) ⊎ ((i ≡ j) ⊎ (j < i))
compared zero zero = inr (inl refl)
compared zero (suc j) = inl (omega arith)
compared (suc i) zero = inr (inr (omega arith))
compared (suc i) (suc j) = ⊎_elim
    (λ before. inl (let l : i < j = before in omega arith))
    (λ rest. inr (⊎_elim (λ e. inl (ap suc e)) (λ behind. inr (let l : j < i = behind in omega arith)) rest))
    (compared i j)

module _ (r : Renaming) (m n : Abstract) (c : CarriesAll r m n) (reached : ReachedFollows r m n) (rise : MemoriesRise r m) where
  memory_live : (i : ℕ) → IsSome (m.memories i) → IsSome (n.memories (r.numbers Memories i))
  memory_live i live = live_under (IsLive m) (λ x. ⊥) r m n c Memories i live

  -- a memory of the new module, by its old number
  old_memory : (j : ℕ) → IsSome (n.memories j) → (i : ℕ) × IsSome (m.memories i) × (r.numbers Memories i ≡ j)
  old_memory j there = ⊎_elim (λ found. found) (λ none. absurd none) (c.memories.onto j there)

  -- nothing live stands before the new number of the first memory
  none_before : (i : ℕ) → IsFirstMemory m i → (j : ℕ) → j < r.numbers Memories i → IsSome (n.memories j) → ⊥
  none_before i first j less there =
      let old = old_memory j there in
      let same : r.numbers Memories old.0 ≡ j = old.2 in
      ⊎_elim
      (λ before. not_none (m.memories old.0) old.1 (first.first old.0 before))
      (λ rest. ⊎_elim
      (λ e. let equal : r.numbers Memories old.0 ≡ r.numbers Memories i = ap (r.numbers Memories) e in let l : j < r.numbers Memories i = less in omega arith)
      (λ behind. let later : r.numbers Memories i < r.numbers Memories old.0 = rise i old.0 first.live old.1 behind in let l : j < r.numbers Memories i = less in omega arith)
      rest)
      (compared old.0 i)

  first_forth : (i : ℕ) → IsFirstMemory m i → IsFirstMemory n (r.numbers Memories i)
  first_forth i first = record { live = memory_live i first.live; first = λ j less. none_unless (n.memories j) (none_before i first j less) }

  first_back : (i : ℕ) → IsSome (m.memories i) → IsFirstMemory n (r.numbers Memories i) → IsFirstMemory m i
  first_back i live first = record { live = live; first = λ j less. none_unless (m.memories j) (λ there. not_none (n.memories (r.numbers Memories j)) (memory_live j there) (first.first (r.numbers Memories j) (rise j i there live less))) }

  -- an item of the old module under whose new number something of this space is reached
  reached_in : (space : Space) (j : ℕ) → Reached n (space, j) → (i : ℕ) × Reached m (space, i) × (r.numbers space i ≡ j)
  reached_in space j h =
      let found = reached.back (space, j) h in
      let same : found.0.0 ≡ space = ap (λ (q : Item). q.0) found.2 in
      (found.0.1, subst (λ s. Reached m (s, found.0.1)) same found.1, subst (λ s. r.numbers s found.0.1 ≡ j) same (ap (λ (q : Item). q.1) found.2))

  spare_forth : (x : Item) → IsSpareMemory m x → IsSpareMemory n (renamed r x)
  spare_forth x spare = record {
    segment = r.numbers DataSegments spare.segment;
    data_is_reached = reached.forth (DataSegments, spare.segment) spare.data_is_reached;
    no_memory_is = λ j h. let old = reached_in Memories j h in spare.no_memory_is old.0 old.1;
    memory = r.numbers Memories spare.memory;
    is = ap (renamed r) spare.is;
    first = first_forth spare.memory spare.first;
  }

  spare_back : (y : Item) → IsSpareMemory n y → (x : Item) × Kept m x × (renamed r x ≡ y)
  spare_back y spare =
      let segment = reached_in DataSegments spare.segment spare.data_is_reached in
      let old = old_memory spare.memory spare.first.live in
      let first : IsFirstMemory m old.0 = first_back old.0 old.1 (subst (IsFirstMemory n) (sym old.2) spare.first) in (
        (Memories, old.0),
        inr (record {
          segment = segment.0;
          data_is_reached = segment.1;
          no_memory_is = λ j h. spare.no_memory_is (r.numbers Memories j) (reached.forth (Memories, j) h);
          memory = old.0;
          is = refl;
          first = first;
        }),
        ap (λ (q : ℕ). (Memories, q)) old.2 ∙ sym spare.is,
      )

  kept_forth : (x : Item) → Kept m x → Kept n (renamed r x)
  kept_forth x (inl h) = inl (reached.forth x h)
  kept_forth x (inr spare) = inr (spare_forth x spare)

  kept_back : (y : Item) → Kept n y → (x : Item) × Kept m x × (renamed r x ≡ y)
  kept_back y (inl h) = let found = reached.back y h in (found.0, inl found.1, found.2)
  kept_back y (inr spare) = spare_back y spare

  pub kept_follows_lem : KeptFollows r m n
  kept_follows_lem = record { forth = kept_forth; back = kept_back }
