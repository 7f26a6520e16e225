-- What becomes of the names of items that stand place by place.
use Rattle.std.proofs.Common.{◌≡◌, ℕ, zero, suc, ◌+◌, ◌<◌, ◌≤◌, Bool, true, false, List, [], ◌∷◌, ◌++◌, map, refl, sym, ap, ap₂, ◌∙◌, arith, eqb-true}
use Rattle.std.specs.Prelude.{Option, Some, None, IsSome, option_map, slice_set, ◌==◌}
use Rattle.std.proofs.lemmas.Bool.{eqb-false}
use mathlib.Core.Path.{fun_ext}
use Rattle.walrus_base.specs.Arena.{item_at}
use Rattle.walrus_model.specs.Abstract.{Name}
use Rattle.walrus_reading.specs.Renamed.{last_given, renamed_from}

abbrev Becomes : Type 0
Becomes = Option Name → Option Name

abbrev as_it_was : Becomes
as_it_was old = old

pub different : (n m : ℕ) (b : Bool) → (n ≡ m → ⊥) → (n == m) ≡ b → b ≡ false
different n m true apart e = absurd (apart (eqb-true n m e))
different n m false apart e = refl

is_here : (n k : ℕ) (b : Bool) → n ≡ k → (n == k) ≡ b → b ≡ true
is_here n k true same e = refl
is_here n k false same e = absurd (eqb-false n k e same)

pub one_later : (a b : ℕ) → a + 1 + b ≡ a + suc b
one_later a b = omega arith

pub nothing_more : (a : ℕ) → a + 0 ≡ a
nothing_more a = omega arith

module _ {X : Type 0} (mend : Becomes → X → X) where
  -- what stands at a place, under what becomes of its name
  pub item_renamed : (names : ℕ → Becomes) (k : ℕ) (slots : List (Option X)) (i : ℕ) → item_at (renamed_from mend names k slots) i ≡ option_map (mend (names (k + i))) (item_at slots i)
  item_renamed names k [] i = refl
  item_renamed names k (s ∷ slots) zero = ap (λ (n : ℕ). option_map (mend (names n)) s) (sym (nothing_more k))
  item_renamed names k (s ∷ slots) (suc i) = item_renamed names (k + 1) slots i ∙ ap (λ (n : ℕ). option_map (mend (names n)) (item_at slots i)) (one_later k i)

  -- what is seen of an item beside its name stays
  pub seen_renamed : {Y : Type 0} (f : X → Y) → ((becomes : Becomes) (x : X) → f (mend becomes x) ≡ f x) → (names : ℕ → Becomes) (k : ℕ) (slots : List (Option X)) → map (option_map f) (renamed_from mend names k slots) ≡ map (option_map f) slots
  seen_renamed f same names k [] = refl
  seen_renamed {Y} f same names k (None ∷ slots) = ap (λ (l : List (Option Y)). None ∷ l) (seen_renamed f same names (k + 1) slots)
  seen_renamed {Y} f same names k (Some x ∷ slots) = ap₂ (λ (y : Y) (l : List (Option Y)). Some y ∷ l) (same (names k) x) (seen_renamed f same names (k + 1) slots)

  pub renamed_ext : (f g : ℕ → Becomes) → ((n : ℕ) → f n ≡ g n) → (k : ℕ) (slots : List (Option X)) → renamed_from mend f k slots ≡ renamed_from mend g k slots
  renamed_ext f g same k slots = ap (λ (h : ℕ → Becomes). renamed_from mend h k slots) (fun_ext same)

  module _ (twice : (f g : Becomes) (x : X) → mend g (mend f x) ≡ mend (λ old. g (f old)) x) where
    slot_twice : (f g : Becomes) (s : Option X) → option_map (mend g) (option_map (mend f) s) ≡ option_map (mend (λ old. g (f old))) s
    slot_twice f g None = refl
    slot_twice f g (Some x) = ap Some (twice f g x)

    pub renamed_twice : (f g : ℕ → Becomes) (k : ℕ) (slots : List (Option X)) → renamed_from mend g k (renamed_from mend f k slots) ≡ renamed_from mend (λ n old. g n (f n old)) k slots
    renamed_twice f g k [] = refl
    renamed_twice f g k (s ∷ slots) = ap₂ (λ (o : Option X) (l : List (Option X)). o ∷ l) (slot_twice (f k) (g k) s) (renamed_twice f g (k + 1) slots)

  module _ (whole : (x : X) → mend as_it_was x ≡ x) where
    slot_same : (becomes : Becomes) (s : Option X) → becomes ≡ as_it_was → option_map (mend becomes) s ≡ s
    slot_same becomes None e = refl
    slot_same becomes (Some x) e = ap (λ (f : Becomes). Some (mend f x)) e ∙ ap Some (whole x)

    -- where no name becomes another
    pub renamed_same : (names : ℕ → Becomes) (k : ℕ) (slots : List (Option X)) → ((n : ℕ) → k ≤ n → names n ≡ as_it_was) → renamed_from mend names k slots ≡ slots
    renamed_same names k [] same = refl
    renamed_same names k (s ∷ slots) same = ap₂ (λ (o : Option X) (l : List (Option X)). o ∷ l) (slot_same (names k) s (same k (omega arith))) (renamed_same names (k + 1) slots (λ n le. same n (omega (arith, le))))

    -- what a test says of one place
    module _ (test : Bool → Becomes) (off : test false ≡ as_it_was) (place : ℕ) where
      abbrev pub here : ℕ → Becomes
      here n = test (place == n)

      elsewhere : (n : ℕ) → (place ≡ n → ⊥) → here n ≡ as_it_was
      elsewhere n apart = ap test (different place n (place == n) apart refl) ∙ off

      behind : (k : ℕ) (slots : List (Option X)) → place < k → renamed_from mend here k slots ≡ slots
      behind k slots lt = renamed_same here k slots (λ n le. elsewhere n (λ e. omega (arith, e, lt, le)))

      at_place : (k : ℕ) → place ≡ k → here k ≡ test true
      at_place k same = ap test (is_here place k (place == k) same refl)

      -- where another item is put at the place, it alone is another
      pub set_here : (k p : ℕ) (slots : List (Option X)) (s : Option X) → place ≡ k + p → IsSome (item_at slots p) → s ≡ option_map (mend (test true)) (item_at slots p) → slice_set slots p s ≡ renamed_from mend here k slots
      set_here k p [] s at live is = absurd cc
      set_here k zero (x ∷ slots) s at live is =
          ap₂ (λ (o : Option X) (l : List (Option X)). o ∷ l)
          (is ∙ ap (λ (g : Becomes). option_map (mend g) x) (sym (at_place k (omega (arith, at)))))
          (sym (behind (k + 1) slots (omega (arith, at))))
      set_here k (suc p) (x ∷ slots) s at live is =
          ap₂ (λ (o : Option X) (l : List (Option X)). o ∷ l) (sym (slot_same (here k) x (elsewhere k (λ e. omega (arith, e, at))))) (set_here (k + 1) p slots s (omega (arith, at)) live is)

      -- where what stands at the place stays, all does
      pub same_here : (k p : ℕ) (slots : List (Option X)) → place ≡ k + p → item_at slots p ≡ option_map (mend (test true)) (item_at slots p) → slots ≡ renamed_from mend here k slots
      same_here k p [] at same = refl
      same_here k zero (x ∷ slots) at same =
          ap₂ (λ (o : Option X) (l : List (Option X)). o ∷ l)
          (same ∙ ap (λ (g : Becomes). option_map (mend g) x) (sym (at_place k (omega (arith, at)))))
          (sym (behind (k + 1) slots (omega (arith, at))))
      same_here k (suc p) (x ∷ slots) at same =
          ap₂ (λ (o : Option X) (l : List (Option X)). o ∷ l) (sym (slot_same (here k) x (elsewhere k (λ e. omega (arith, e, at))))) (same_here (k + 1) p slots (omega (arith, at)) same)

-- ---- one name after another

pub named_behind : (xs ys : List Name) (old : Option Name) → last_given ys (last_given xs old) ≡ last_given (xs ++ ys) old
named_behind [] ys old = refl
named_behind (x ∷ xs) ys old = named_behind xs ys (Some x)
