-- What items keep beside what is written in them stays where functions, tables and memories keep theirs.
use Rattle.std.proofs.Common.{◌≡◌, ◌≢◌, ℕ, List, refl, sym, ap, ◌∙◌, subst}
use Rattle.std.specs.Prelude.{Bool, Contains, IsTrue}
use Rattle.walrus_base.specs.Operators.{Types, Functions, Tables, Memories, Tags, Globals, Elements, DataSegments, Item, function_item}
use Rattle.walrus_model.specs.Abstract.{Abstract}
use Rattle.walrus_model.specs.Refers.{KeepsToo}
use Rattle.walrus_theorem.specs.Edits.{KeepsNoMore}

-- another number, another item
pub other_number : {i j : ℕ} (item : ℕ → Item) → item i ≢ item j → j ≢ i
other_number item differs e = differs (ap item (sym e))

module _ (v w : Abstract) where
  -- what an item keeps it kept, where its kind keeps what it kept
  pub kept_on : (y z : Item) → ((i : ℕ) → y ≡ (Functions, i) → w.handler_types i ≡ v.handler_types i) → ((i : ℕ) → y ≡ (Tables, i) → w.table_segments i ≡ v.table_segments i)
      → ((i : ℕ) → y ≡ (Memories, i) → w.memory_segments i ≡ v.memory_segments i) → KeepsToo w y z → KeepsToo v y z
  kept_on (Functions, i) z handlers tables memories (t, has, is) = (t, subst (λ (ts : List ℕ). Contains ts t) (handlers i refl) has, is)
  kept_on (Tables, i) z handlers tables memories (e, has, is) = (e, subst (λ (f : ℕ → Bool). IsTrue (f e)) (tables i refl) has, is)
  kept_on (Memories, i) z handlers tables memories (d, has, is) = (d, subst (λ (f : ℕ → Bool). IsTrue (f d)) (memories i refl) has, is)
  kept_on (Types, i) z handlers tables memories h = h
  kept_on (Tags, i) z handlers tables memories h = h
  kept_on (Globals, i) z handlers tables memories h = h
  kept_on (Elements, i) z handlers tables memories h = h
  kept_on (DataSegments, i) z handlers tables memories h = h

  -- so it is of all items but one, where it is of all functions, tables and memories but that one
  pub keeps_but : (x : Item) → ((i : ℕ) → x ≢ (Functions, i) → w.handler_types i ≡ v.handler_types i) → ((i : ℕ) → x ≢ (Tables, i) → w.table_segments i ≡ v.table_segments i)
      → ((i : ℕ) → x ≢ (Memories, i) → w.memory_segments i ≡ v.memory_segments i) → KeepsNoMore x v w
  keeps_but x handlers tables memories y z differs h =
      kept_on y z (λ i is. handlers i (λ e. differs (is ∙ sym e))) (λ i is. tables i (λ e. differs (is ∙ sym e))) (λ i is. memories i (λ e. differs (is ∙ sym e))) h

  module _ (tables : w.table_segments ≡ v.table_segments) (memories : w.memory_segments ≡ v.memory_segments) where
    -- where the handlers of the other functions stay
    pub keeps_functions : (j : ℕ) → ((i : ℕ) → i ≢ j → w.handler_types i ≡ v.handler_types i) → KeepsNoMore (function_item j) v w
    keeps_functions j handlers = keeps_but (Functions, j) (λ i differs. handlers i (other_number (λ (n : ℕ). (Functions, n)) differs)) (λ i differs. ap (λ (f : ℕ → ℕ → Bool). f i) tables) (λ i differs. ap (λ (f : ℕ → ℕ → Bool). f i) memories)

    -- where all stay
    pub keeps_all : (x : Item) → w.handler_types ≡ v.handler_types → KeepsNoMore x v w
    keeps_all x same = keeps_but x (λ i differs. ap (λ (f : ℕ → List ℕ). f i) same) (λ i differs. ap (λ (f : ℕ → ℕ → Bool). f i) tables) (λ i differs. ap (λ (f : ℕ → ℕ → Bool). f i) memories)
