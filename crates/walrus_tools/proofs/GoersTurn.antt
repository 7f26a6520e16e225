-- Functions that are marked as going, one after another, and how many bytes their bodies have.
use Rattle.std.proofs.Common.{◌≡◌, ◌≢◌, ℕ, ◌+◌, ◌<◌, ◌≤◌, Bool, true, false, not, ◌==◌, ◌&&◌, ◌||◌, List, [], ◌∷◌, length, map, None, Option, cond, get_or, take, refl, sym, ap, ◌∙◌, subst, arith, ⊎_elim}
use Rattle.std.specs.Prelude.{filter, is_some}
use Rattle.std.specs.List.{sum_by}
use Rattle.std.proofs.lemmas.Bool.{cases_lt}
use Rattle.std.proofs.lemmas.List.{get_or_past}
use Rattle.std.proofs.lemmas.List.Sums.{sum_by-cons, sum_by_more_le}
use Rattle.walrus.specs.Base.Marks.{is_marked, mark_places}
use Rattle.walrus.specs.Base.FunctionKey.{FunctionKey}
use Rattle.walrus.specs.Base.MarksValue.{Marks}
use Rattle.walrus.specs.Items.Functions.{FunctionValue}
use Rattle.walrus_tools.specs.Alone.{bytes_of, size_of}
use Rattle.walrus_tools.specs.AloneSteps.{MarksGoers, MarksIf, goes_at, size_if, size_where}

-- ---- marks

module _ (all : List (Option FunctionValue)) (used : ℕ → Bool) (f : ℕ) where
  -- of the first k functions those are marked that go, and there is a mark for each
  pub record MarksSome (k : ℕ) (marks : Marks FunctionKey) : Type 0 where
    pub done : (i : ℕ) → i < k → is_marked marks i ≡ goes_at all used f i
    pub left : (i : ℕ) → k ≤ i → is_marked marks i ≡ false
    pub places : mark_places marks ≡ length all

  pub marks_begin : (marks : Marks FunctionKey) → ((i : ℕ) → is_marked marks i ≡ false) → mark_places marks ≡ length all → MarksSome 0 marks
  marks_begin marks none places = record { done = λ i lt. absurd (omega (arith, lt)); left = λ i le. none i; places = places }

  module _ (k : ℕ) (old new : Marks FunctionKey) (some : MarksSome k old) where
    abbrev DoneNow : ℕ → Type 0
    DoneNow i = is_marked new i ≡ goes_at all used f i

    extends : is_marked new k ≡ goes_at all used f k → ((i : ℕ) → i ≢ k → is_marked new i ≡ is_marked old i) → mark_places new ≡ mark_places old → MarksSome (k + 1) new
    extends here others places = record {
      done = λ i lt. ⊎_elim
          (λ (before : i < k). others i (λ is. omega (arith, before, is)) ∙ some.done i before)
          (λ (after : k ≤ i). (let is : k ≡ i = omega (arith, lt, after) in subst DoneNow is here))
          (cases_lt i k);
      left = λ i le. others i (λ is. omega (arith, le, is)) ∙ some.left i (omega (arith, le));
      places = places ∙ some.places;
    }

    pub marks_next : (so : Bool) → so ≡ goes_at all used f k → MarksIf so k old new → MarksSome (k + 1) new
    marks_next true is sets = extends (sets.added ∙ is) sets.others sets.places
    marks_next false is same = extends (ap (λ (m : Marks FunctionKey). is_marked m k) same ∙ some.left k (omega arith) ∙ is) (λ i differs. ap (λ (m : Marks FunctionKey). is_marked m i) same) (ap mark_places same)

  pub marks_end : (k : ℕ) (marks : Marks FunctionKey) → MarksSome k marks → length all ≤ k → MarksGoers all used f marks
  marks_end k marks some le i = ⊎_elim
      (λ (lt : i < k). some.done i lt)
      (λ (past : k ≤ i). some.left i past ∙ sym (ap (λ (o : Option FunctionValue). is_some o && rest i) (get_or_past all i None (omega (arith, le, past)))))
      (cases_lt i k) where
        rest : ℕ → Bool
        rest i = (i == f) || not (used i)

-- ---- bytes

module _ (goes : ℕ → Bool) where
  -- what those have that go is what is left of them where the others are taken out
  pub sizes_are : (bodies : List (ℕ × (ℕ × ℕ))) → sum_by (size_if goes) bodies ≡ bytes_of (filter (λ b. goes b.0) bodies)
  sizes_are [] = refl
  sizes_are (b ∷ bodies) = sum_by-cons (size_if goes) b bodies ∙ by (goes b.0) (sizes_are bodies) where
    by : (t : Bool) → sum_by (size_if goes) bodies ≡ bytes_of (filter (λ b. goes b.0) bodies)
        → size_where t b + sum_by (size_if goes) bodies ≡ bytes_of (cond t (b ∷ filter (λ b. goes b.0) bodies) (filter (λ b. goes b.0) bodies))
    by true same = ap (λ (n : ℕ). size_of b + n) same ∙ sym (sum_by-cons size_of b (filter (λ b. goes b.0) bodies))
    by false same = (let z : 0 + sum_by (size_if goes) bodies ≡ sum_by (size_if goes) bodies = omega arith in z ∙ same)

  -- they are no more than all
  at_most : (t : Bool) (b : ℕ × (ℕ × ℕ)) → size_where t b ≤ size_of b
  at_most true b = omega arith
  at_most false b = omega arith

  sizes_fit : (bodies : List (ℕ × (ℕ × ℕ))) → sum_by (size_if goes) bodies ≤ bytes_of bodies
  sizes_fit [] = omega arith
  sizes_fit (b ∷ bodies) =
      let first = at_most (goes b.0) b in
      let rest = sizes_fit bodies in
      omega (arith, first, rest, sum_by-cons (size_if goes) b bodies, sum_by-cons size_of b bodies)

  sum_mapped : {A B : Type 0} (g : B → ℕ) (f : A → B) (xs : List A) → sum_by g (map f xs) ≡ sum_by (λ x. g (f x)) xs
  sum_mapped g f [] = refl
  sum_mapped g f (x ∷ xs) = sum_by-cons g (f x) (map f xs) ∙ ap (λ (n : ℕ). g (f x) + n) (sum_mapped g f xs) ∙ sym (sum_by-cons (λ x. g (f x)) x xs)

  -- so there is room for the next one behind those before
  pub sum_fits : {A : Type 0} (seen : A → ℕ × (ℕ × ℕ)) (bodies : List A) (i : ℕ) (d : A) → i < length bodies → (n : ℕ) → n ≡ size_if goes (seen (get_or bodies i d))
      → sum_by (size_if goes) (map seen (take i bodies)) + n ≤ bytes_of (map seen bodies)
  sum_fits seen bodies i d lt n is =
      let here = sum_mapped (size_if goes) seen (take i bodies) in
      let all = sum_mapped (size_if goes) seen bodies in
      let more = sum_by_more_le (λ b. size_if goes (seen b)) bodies i d lt in
      let most = sizes_fit (map seen bodies) in
      omega (arith, here, all, more, most, is)
