-- The memory that stays where data is reached and no memory is: what marks it.
use Rattle.std.proofs.Common.{◌≡◌, ℕ, ◌≢◌, ◌⊎◌, inl, inr, ⊎_elim, true, List, [], ◌∷◌, sym, ap, ◌∙◌}
use Rattle.std.specs.Prelude.{option_map}
use Rattle.std.proofs.lemmas.Bool.{cases_order}
use Rattle.walrus_base.specs.Arena.{entries, item_at}
use Rattle.walrus_base.specs.Operators.{DataSegments, Memories}
use Rattle.walrus_items.specs.Memories.{MemoryValue, memories}
use Rattle.walrus_model.specs.Abstract.{Abstract}
use Rattle.walrus_model.specs.Kept.{IsFirstMemory}
use Rattle.walrus_contents.specs.View.{contents_view, memory_of}
use Rattle.walrus_contents.specs.declared.parts.Contents.{Contents}
use Rattle.walrus_contents.proofs.LiveLemmas.{seen_there}
use Rattle.walrus_model.proofs.Slots.{first_there, none_there}
use Rattle.walrus.specs.Marked.{Finds, IsFirst, MarksAreKept, MarksFirst, MarksSpare}
use Rattle.walrus.specs.MarkedItems.{AddsMark, has_mark}
use Rattle.walrus.specs.Used.{Found}
use Rattle.walrus.specs.declared.passes.marks.MarkedItems.{MarkedItems}
use Rattle.walrus.proofs.Entered.{same_or_other_item}
use Rattle.walrus_model.proofs.KeptFollow.{not_none as some_none}

-- ---- the first memory

module _ (held : Contents) (left after : List (ℕ × MemoryValue)) (all : left ≡ entries (memories held.memories)) where
  pub is_first : (e : ℕ × MemoryValue) → left ≡ e ∷ after → IsFirstMemory (contents_view held) e.0
  is_first e is =
      let there = first_there (memories held.memories) e after (sym all ∙ is) in
      record { live = seen_there memory_of (item_at (memories held.memories) e.0) e.1 there.0; first = λ j lt. ap (option_map memory_of) (there.1 j lt) }

  pub no_first : left ≡ [] → (i : ℕ) → IsFirstMemory (contents_view held) i → ⊥
  no_first is i first = some_none ((contents_view held).memories i) first.live (ap (option_map memory_of) (none_there (memories held.memories) (sym all ∙ is) i))

module _ (v : Abstract) where
  one_first : (i j : ℕ) → IsFirstMemory v i → IsFirstMemory v j → i ≡ j
  one_first i j a b = ⊎_elim
      (λ same. same)
      (λ rest. ⊎_elim (λ lt. absurd (some_none (v.memories i) a.live (b.first i lt))) (λ gt. absurd (some_none (v.memories j) b.live (a.first j gt))) rest)
      (cases_order i j)

  -- there is one, and it is marked
  pub marks_first : (old new : MarkedItems) (i : ℕ) → IsFirstMemory v i → AddsMark old new (Memories, i) → MarksFirst v old new
  marks_first old new i first adds x = (λ h. told h (same_or_other_item x (Memories, i)), λ h. ⊎_elim (λ was. kept was (same_or_other_item x (Memories, i))) marked h) where
    told : has_mark new x ≡ true → (x ≡ (Memories, i)) ⊎ (x ≢ (Memories, i)) → (has_mark old x ≡ true) ⊎ IsFirst v x
    told h (inl is) = inr (record { memory = i; is = is; first = first })
    told h (inr other) = inl (sym (adds.others x other) ∙ h)

    here : x ≡ (Memories, i) → has_mark new x ≡ true
    here is = ap (has_mark new) is ∙ adds.added

    kept : has_mark old x ≡ true → (x ≡ (Memories, i)) ⊎ (x ≢ (Memories, i)) → has_mark new x ≡ true
    kept was (inl is) = here is
    kept was (inr other) = adds.others x other ∙ was

    marked : IsFirst v x → has_mark new x ≡ true
    marked f = here (f.is ∙ ap (λ (n : ℕ). (Memories, n)) (one_first f.memory i f.first first))

  -- there is none
  pub marks_none : (marks : MarkedItems) → ((i : ℕ) → IsFirstMemory v i → ⊥) → MarksFirst v marks marks
  marks_none marks none x = (λ h. inl h, λ h. ⊎_elim (λ was. was) (λ f. absurd (none f.memory f.first)) h)

  -- ---- what is kept

  spare_kept : (old new : MarkedItems) (count : ℕ) → Found v old count → MarksSpare v old new → MarksAreKept v new
  spare_kept old new count found spare x = (
    λ h. ⊎_elim
        (λ was. inl ((found.marked x).0 was))
        (λ s. inr (record {
          segment = s.0.segment;
          data_is_reached = (found.marked (DataSegments, s.0.segment)).0 s.0.data_is;
          no_memory_is = λ j reached. s.0.no_memory_is j ((found.marked (Memories, j)).1 reached);
          memory = s.1.memory;
          is = s.1.is;
          first = s.1.first;
        }))
        ((spare x).0 h),
    λ kept. (spare x).1 (⊎_elim
        (λ reached. inl ((found.marked x).1 reached))
        (λ s. inr (
          record {
            segment = s.segment;
            data_is = (found.marked (DataSegments, s.segment)).1 s.data_is_reached;
            no_memory_is = λ j marked. s.no_memory_is j ((found.marked (Memories, j)).0 marked);
          },
          record { memory = s.memory; is = s.is; first = s.first },
        ))
        kept),
  )

  -- the spare memory isn't counted
  pub finds_spare : (old new : MarkedItems) (count : ℕ) → Found v old count → MarksSpare v old new → Finds v new count
  finds_spare old new count found spare = record { kept = spare_kept old new count found spare; count = found.count; sound = found.sound }
