-- The report on the module of two functions: the second is kept, the first is dropped, and there is nothing else to count.
use Rattle.std.proofs.Common.{◌≡◌, ℕ, suc, zero, ◌<◌, List, [], ◌∷◌, codes, refl, sym, subst, arith, inl}
use Rattle.std.specs.Prelude.{Contains}
use Rattle.walrus_base.specs.Operators.{Space, Functions, Tables, Memories, Tags, Globals, Elements, DataSegments}
use Rattle.walrus_model.specs.Examples.{two_functions}
use Rattle.walrus_model.specs.Kept.{Kept}
use Rattle.walrus_model.specs.Live.{IsLive}
use Rattle.walrus_model.proofs.Examples.{first_is_not, is_kept, not_kept, only_one, only_second, second_reached}
use Rattle.walrus_base.proofs.Lists.{Contains-head, Contains-none}
use Rattle.walrus_theorem.specs.Report.{line, Counts, IsLine, IsReport, Parts, two_functions_report}
use Rattle.walrus_theorem.proofs.WorkedRun.{two_there}

module _ (P : ℕ → Type 0) where
  no_number : ((i : ℕ) → P i → ⊥) → Counts P 0
  no_number never = record {
    numbers = [];
    rising = λ i j d less low. absurd (omega (arith, low));
    are = λ i. (λ has. absurd (Contains-none i has), λ p. absurd (never i p));
    long = refl;
  }

  one_number : (n : ℕ) → P n → ((i : ℕ) → P i → i ≡ n) → Counts P 1
  one_number n is alone = record {
    numbers = n ∷ [];
    rising = λ i j d less low. absurd (omega (arith, less, low));
    are = λ i. (λ has. subst P (only_one n i has) is, λ p. subst (λ (x : ℕ). Contains (n ∷ []) x) (sym (alone i p)) (Contains-head n []));
    long = refl;
  }

-- a function that isn't the second is the first
only_first : (i : ℕ) → IsLive two_functions (Functions, i) × (Kept two_functions (Functions, i) → ⊥) → i ≡ 0
only_first zero h = refl
only_first (suc zero) h = absurd (h.1 (inl second_reached))
only_first (suc (suc i)) h = let lt : suc (suc i) < 2 = (two_there (suc (suc i))).0 h.0 in absurd (omega (arith, lt))

functions_line : IsLine two_functions Functions (codes "functions") (line (codes "functions") 1 1)
functions_line =
    let parts : Parts two_functions Functions 1 1 = record {
      kept_are = one_number (λ i. Kept two_functions (Functions, i)) 1 (inl second_reached) only_second;
      dropped_are = one_number (λ i. IsLive two_functions (Functions, i) × (Kept two_functions (Functions, i) → ⊥)) 0 (refl, first_is_not) only_first;
    } in
    (1, (1, (parts, refl)))

-- the space has no item
module _ (space : Space) (none : (i : ℕ) → IsLive two_functions (space, i) → ⊥) (none_kept : (i : ℕ) → Kept two_functions (space, i) → ⊥) where
  empty_line : (word : List ℕ) → IsLine two_functions space word (line word 0 0)
  empty_line word =
      let parts : Parts two_functions space 0 0 = record {
        kept_are = no_number (λ i. Kept two_functions (space, i)) none_kept;
        dropped_are = no_number (λ i. IsLive two_functions (space, i) × (Kept two_functions (space, i) → ⊥)) (λ i h. none i h.0);
      } in
      (0, (0, (parts, refl)))

pub report_is : IsReport two_functions two_functions_report
unfolding is_kept
report_is = record {
  functions = line (codes "functions") 1 1;
  tables = line (codes "tables") 0 0;
  memories = line (codes "memories") 0 0;
  tags = line (codes "tags") 0 0;
  globals = line (codes "globals") 0 0;
  elements = line (codes "elements") 0 0;
  data_segments = line (codes "data") 0 0;
  is = refl;
  functions_are = functions_line;
  tables_are = empty_line Tables (λ i h. absurd (cc)) (λ i. not_kept (Tables, i) refl) (codes "tables");
  memories_are = empty_line Memories (λ i h. absurd (cc)) (λ i. not_kept (Memories, i) refl) (codes "memories");
  tags_are = empty_line Tags (λ i h. absurd (cc)) (λ i. not_kept (Tags, i) refl) (codes "tags");
  globals_are = empty_line Globals (λ i h. absurd (cc)) (λ i. not_kept (Globals, i) refl) (codes "globals");
  elements_are = empty_line Elements (λ i h. absurd (cc)) (λ i. not_kept (Elements, i) refl) (codes "elements");
  data_segments_are = empty_line DataSegments (λ i h. absurd (cc)) (λ i. not_kept (DataSegments, i) refl) (codes "data");
}
