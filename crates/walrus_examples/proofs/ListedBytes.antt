-- Which functions bytes list, index by index.
use Rattle.std.proofs.Common.{◌≡◌, ℕ, ◌<◌, ◌^◌, List, [], ◌∷◌, ◌++◌, drop, refl, sym, ap, ◌∙◌, subst, ⊎_elim}
use Rattle.std.specs.Prelude.{Contains, Option, Err}
use Rattle.std.proofs.lemmas.Grind.{flat_map-append}
use Rattle.std.proofs.lemmas.List.{append-nil, append_assoc}
use Rattle.walrus.proofs.Base.Lists.{Contains-head, Contains-none, Contains-tail, Contains-uncons}
use Rattle.walrus.proofs.Theorem.StepHandlers.{Contains-split}
use Rattle.walrus.specs.Items.Error.{Error}
use Rattle.walrus.specs.Items.Functions.{FunctionValue}
use Rattle.walrus_examples.specs.ListSteps.{BeginsWith, FindsFirst, FindsListed, IsThere}
use Rattle.walrus.specs.Listed.{index_bytes, list_bytes}
use Rattle.walrus_examples.specs.ListSection.{Lists}

-- what stands behind an index is told by the bytes
same_rest : (i j : ℕ) (xs ys : List ℕ) → index_bytes i ++ xs ≡ index_bytes j ++ ys → xs ≡ ys
same_rest i j xs ys same = ap (drop 4) same

none_starts : (i : ℕ) (xs : List ℕ) → [] ≡ index_bytes i ++ xs → ⊥
none_starts i xs same = absurd (cc)

module _ (functions : List (Option FunctionValue)) where
  -- The bytes begin with this list of functions, and these are behind it; and who lists functions by the bytes does so by what is behind.
  pub record SoFar (bytes done rest : List ℕ) : Type 0 where
    pub are : bytes ≡ list_bytes done ++ rest
    pub there : (i : ℕ) → Contains done i → (i < 2 ^ 32) × IsThere functions i
    pub left : (indices : List ℕ) → Lists (IsThere functions) bytes indices → (more : List ℕ) × Lists (IsThere functions) rest more

  pub begins : (bytes : List ℕ) → SoFar bytes [] bytes
  begins bytes = record { are = refl; there = λ i at. absurd (Contains-none i at); left = λ indices lists. (indices, lists) }

  module _ (bytes done rest : List ℕ) (so : SoFar bytes done rest) where
    -- ---- one more

    module _ (i : ℕ) (after : List ℕ) (first : BeginsWith functions rest i after) where
      one : list_bytes (i ∷ []) ++ after ≡ index_bytes i ++ after
      one = refl

      are_next : bytes ≡ list_bytes (done ++ i ∷ []) ++ after
      are_next =
          so.are ∙ ap (λ (l : List ℕ). list_bytes done ++ l) first.are
          ∙ sym (ap (λ (l : List ℕ). l ++ after) (flat_map-append index_bytes done (i ∷ [])) ∙ append_assoc (list_bytes done) (list_bytes (i ∷ [])) after)

      there_next : (j : ℕ) → Contains (done ++ i ∷ []) j → (j < 2 ^ 32) × IsThere functions j
      there_next j at = ⊎_elim
          (λ before. so.there j before)
          (λ last. ⊎_elim (λ same. subst (λ (k : ℕ). (k < 2 ^ 32) × IsThere functions k) same (first.small, first.there)) (λ none. absurd (Contains-none j none)) (Contains-uncons i j [] last))
          (Contains-split j done (i ∷ []) at)

      shorter : (more : List ℕ) → Lists (IsThere functions) rest more → (less : List ℕ) × Lists (IsThere functions) after less
      shorter [] lists = absurd (none_starts i after (sym lists.spelled ∙ first.are))
      shorter (j ∷ more) lists = (
        more,
        record {
          spelled = sym (same_rest j i (list_bytes more) after (sym lists.spelled ∙ first.are));
          there = λ k at. lists.there k (Contains-tail j k more at);
        },
      )

      pub next : SoFar bytes (done ++ i ∷ []) after
      next = record {
        are = are_next;
        there = there_next;
        left = λ indices lists. let rest_lists = so.left indices lists in shorter rest_lists.0 rest_lists.1;
      }

    -- ---- no more

    pub ends : rest ≡ [] → Lists (IsThere functions) bytes done
    ends none = record { spelled = so.are ∙ ap (λ (l : List ℕ). list_bytes done ++ l) none ∙ append-nil (list_bytes done); there = so.there }

    refused_by : (rest ≡ [] → ⊥) → ((i : ℕ) (after : List ℕ) → BeginsWith functions rest i after → ⊥) → (more : List ℕ) → Lists (IsThere functions) rest more → ⊥
    refused_by some none [] lists = some lists.spelled
    refused_by some none (i ∷ more) lists =
        let head = lists.there i (Contains-head i more) in
        none i (list_bytes more) (record { are = lists.spelled; small = head.0; there = head.1 })

    pub refused : (rest ≡ [] → ⊥) → ((i : ℕ) (after : List ℕ) → BeginsWith functions rest i after → ⊥) → (indices : List ℕ) → Lists (IsThere functions) bytes indices → ⊥
    refused some none indices lists = let rest_lists = so.left indices lists in refused_by some none rest_lists.0 rest_lists.1

    -- why no first function is found is why these bytes list none
    pub none_listed : (rest ≡ [] → ⊥) → (e : Error) → FindsFirst functions rest (Err e) → FindsListed functions bytes (Err e)
    none_listed some e h = subst (λ (x : Error). FindsListed functions bytes (Err x)) (sym h.0) (refused some h.1)
