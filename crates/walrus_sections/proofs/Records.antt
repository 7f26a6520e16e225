-- A list of choices as bytes: what stands at its front, and that it can be read in one way only.
use Rattle.std.proofs.Common.{◌≡◌, ◌≤◌, ◌<◌, ◌+◌, ◌-◌, ℕ, zero, suc, Bool, true, false, List, [], ◌∷◌, ◌++◌, length, take, drop, refl, sym, ap, ◌∙◌, subst, append_assoc, append-nil, nat_eq, slice_index_or, arith}
use Rattle.std.specs.Prelude.{if◌then◌else◌, ◌==◌}
use Rattle.std.specs.List.{IsSplitAt}
use Rattle.std.proofs.Math.Seq.{take-append_seam, drop-append_seam}
use Rattle.std.proofs.lemmas.List.{take-append-drop, take_all, length-append, length-drop}
use Rattle.walrus_sections.specs.Choice.{Choice, IsChoice, AreChoices, little}

-- ---- one choice

abbrev kind_byte : Bool → ℕ
kind_byte is_kept = if is_kept then 1 else 0

one_kind : (k l : Bool) → kind_byte k ≡ kind_byte l → k ≡ l
one_kind true true h = refl
one_kind true false h = absurd (omega (arith, h))
one_kind false true h = absurd (omega (arith, h))
one_kind false false h = refl

five_are : (k a b c d l e f g h : ℕ) (xs ys : List ℕ) → k ∷ a ∷ b ∷ c ∷ d ∷ xs ≡ l ∷ e ∷ f ∷ g ∷ h ∷ ys → (k ≡ l) × (a ≡ e) × (b ≡ f) × (c ≡ g) × (d ≡ h) × (xs ≡ ys)
five_are k a b c d l e f g h xs ys is = (cc, cc, cc, cc, cc, cc)

-- the front of a list of a known length, and what is behind it
pub fronts_are : (xs ys us vs : List ℕ) → xs ++ us ≡ ys ++ vs → length xs ≡ length ys → (xs ≡ ys) × (us ≡ vs)
fronts_are xs ys us vs is long = (
  sym (take-append_seam xs us) ∙ ap (λ n. take n (xs ++ us)) long ∙ ap (λ l. take (length ys) l) is ∙ take-append_seam ys vs,
  sym (drop-append_seam xs us) ∙ ap (λ n. drop n (xs ++ us)) long ∙ ap (λ l. drop (length ys) l) is ∙ drop-append_seam ys vs,
)

choice_is : (choice other : Choice) → choice.is_kept ≡ other.is_kept → choice.name ≡ other.name → choice ≡ other
choice_is choice other kinds names = ap (λ k. let c : Choice = record { is_kept = k; name = choice.name } in c) kinds ∙ ap (λ n. let c : Choice = record { is_kept = other.is_kept; name = n } in c) names

little_is : (a b c d e f g h : ℕ) → a ≡ e → b ≡ f → c ≡ g → d ≡ h → little a b c d ≡ little e f g h
little_is a b c d e f g h p q r s = omega (arith, p, q, r, s)

-- at most one choice stands at the front
pub one_choice : (bytes : List ℕ) (choice other : Choice) (rest left : List ℕ) → IsChoice bytes choice rest → IsChoice bytes other left → (choice ≡ other) × (rest ≡ left)
one_choice bytes choice other rest left is so =
    let same = five_are (kind_byte choice.is_kept) is.a is.b is.c is.d (kind_byte other.is_kept) so.a so.b so.c so.d (choice.name ++ rest) (other.name ++ left) (sym is.are ∙ so.are) in
    let long : length choice.name ≡ length other.name = is.counts ∙ little_is is.a is.b is.c is.d so.a so.b so.c so.d same.1 same.2 same.3 same.4 ∙ sym so.counts in
    let both = fronts_are choice.name other.name rest left same.5 long in
    (choice_is choice other (one_kind choice.is_kept other.is_kept same.0) both.0, both.1)

pub no_front : (choice : Choice) (rest : List ℕ) → IsChoice [] choice rest → ⊥
no_front choice rest is = let none : [] ≡ kind_byte choice.is_kept ∷ is.a ∷ is.b ∷ is.c ∷ is.d ∷ choice.name ++ rest = is.are in absurd cc

-- what is behind a choice is shorter
pub shorter : (bytes : List ℕ) (choice : Choice) (rest : List ℕ) → IsChoice bytes choice rest → length rest < length bytes
shorter bytes choice rest is =
    let long : length bytes ≡ length (kind_byte choice.is_kept ∷ is.a ∷ is.b ∷ is.c ∷ is.d ∷ choice.name ++ rest) = ap (λ (l : List ℕ). length l) is.are in
    let behind : length (choice.name ++ rest) ≡ length choice.name + length rest = length-append choice.name rest in
    omega (arith, long, behind)

-- ---- a list of them

pub one_list : (choices others : List Choice) (bytes : List ℕ) → AreChoices bytes choices → AreChoices bytes others → choices ≡ others
one_list [] [] bytes h k = refl
one_list [] (other ∷ others) bytes h k = absurd (no_front other k.0 (subst (λ (l : List ℕ). IsChoice l other k.0) h k.1))
one_list (choice ∷ choices) [] bytes h k = absurd (no_front choice h.0 (subst (λ (l : List ℕ). IsChoice l choice h.0) k h.1))
one_list (choice ∷ choices) (other ∷ others) bytes h k =
    let same = one_choice bytes choice other h.0 k.0 h.1 k.1 in
    let behind : choices ≡ others = one_list choices others k.0 (subst (λ (l : List ℕ). AreChoices l choices) same.1 h.2) k.2 in
    ap (λ c. c ∷ choices) same.0 ∙ ap (λ l. other ∷ l) behind

-- the choices that were read, and the bytes that are left
pub record SoFar (bytes : List ℕ) (done : List Choice) (left : List ℕ) : Type 0 where
  pub here : (more : List Choice) → AreChoices left more → AreChoices bytes (done ++ more)
  pub all : (choices : List Choice) → AreChoices bytes choices → (more : List Choice) × (choices ≡ done ++ more) × AreChoices left more

pub so_far_turn : (bytes : List ℕ) (done : List Choice) (left rest : List ℕ) (choice : Choice) → SoFar bytes done left → IsChoice left choice rest → SoFar bytes (done ++ choice ∷ []) rest
so_far_turn bytes done left rest choice so is = record {
  here = λ more h. subst (AreChoices bytes) (sym (append_assoc done (choice ∷ []) more)) (so.here (choice ∷ more) (rest, is, h));
  all = λ choices h. let found = so.all choices h in behind choices found.0 found.1 found.2;
}
  where
    behind : (choices more : List Choice) → choices ≡ done ++ more → AreChoices left more → (others : List Choice) × (choices ≡ (done ++ choice ∷ []) ++ others) × AreChoices rest others
    behind choices [] e h = absurd (no_front choice rest (subst (λ (l : List ℕ). IsChoice l choice rest) h is))
    behind choices (other ∷ others) e h =
        let same = one_choice left other choice h.0 rest h.1 is in
        (others, e ∙ ap (λ c. done ++ c ∷ others) same.0 ∙ sym (append_assoc done (choice ∷ []) others), subst (λ (l : List ℕ). AreChoices l others) same.1 h.2)

pub so_far_end : (bytes : List ℕ) (done : List Choice) (left : List ℕ) → SoFar bytes done left → left ≡ [] → AreChoices bytes done
so_far_end bytes done left so ends = subst (AreChoices bytes) (append-nil done) (so.here [] ends)

pub so_far_none : (bytes : List ℕ) (done : List Choice) (left : List ℕ) → SoFar bytes done left → (left ≡ [] → ⊥) → ((choice : Choice) (rest : List ℕ) → IsChoice left choice rest → ⊥)
    → (choices : List Choice) → AreChoices bytes choices → ⊥
so_far_none bytes done left so more none choices h = let found = so.all choices h in behind found.0 found.2
  where
    behind : (others : List Choice) → AreChoices left others → ⊥
    behind [] h = more h
    behind (other ∷ others) h = none other h.0 h.1

-- ---- the bytes at the front

pub five_fronts : (bytes : List ℕ) → 5 ≤ length bytes
    → bytes ≡ slice_index_or bytes 0 0 ∷ slice_index_or bytes 1 0 ∷ slice_index_or bytes 2 0 ∷ slice_index_or bytes 3 0 ∷ slice_index_or bytes 4 0 ∷ drop 5 bytes
five_fronts [] h = absurd (omega (arith, h))
five_fronts (a ∷ []) h = absurd (omega (arith, h))
five_fronts (a ∷ b ∷ []) h = absurd (omega (arith, h))
five_fronts (a ∷ b ∷ c ∷ []) h = absurd (omega (arith, h))
five_fronts (a ∷ b ∷ c ∷ d ∷ []) h = absurd (omega (arith, h))
five_fronts (a ∷ b ∷ c ∷ d ∷ e ∷ rest) h = refl

kind_is : (k : ℕ) → k ≤ 1 → k ≡ kind_byte (nat_eq k 1)
kind_is zero h = refl
kind_is (suc zero) h = refl
kind_is (suc (suc k)) h = absurd (omega (arith, h))

-- what the pattern of five bytes and more calls the rest
rest_is : (bytes : List ℕ) → 5 ≤ length bytes → take (length bytes - 5) (drop 5 bytes) ≡ drop 5 bytes
rest_is bytes long = take_all (length bytes - 5) (drop 5 bytes) (let short : length (drop 5 bytes) ≡ length bytes - 5 = length-drop 5 bytes in omega (arith, short))

module _ (bytes : List ℕ) (long : 5 ≤ length bytes) where
  abbrev byte_at : ℕ → ℕ
  byte_at i = slice_index_or bytes i 0

  abbrev counted : ℕ
  counted = little (byte_at 1) (byte_at 2) (byte_at 3) (byte_at 4)

  -- a kind, four bytes of length and a name of that length are a choice
  pub is_choice : (count : ℕ) (name behind : List ℕ) → byte_at 0 ≤ 1 → count ≡ counted → IsSplitAt (take (length bytes - 5) (drop 5 bytes)) count name behind
      → IsChoice bytes (record { is_kept = nat_eq (byte_at 0) 1; name = name }) behind
  is_choice count name behind small counts split = record {
    a = byte_at 1;
    b = byte_at 2;
    c = byte_at 3;
    d = byte_at 4;
    are = five_fronts bytes long ∙ ap (λ k. k ∷ byte_at 1 ∷ byte_at 2 ∷ byte_at 3 ∷ byte_at 4 ∷ drop 5 bytes) (kind_is (byte_at 0) small)
        ∙ ap (λ l. kind_byte (nat_eq (byte_at 0) 1) ∷ byte_at 1 ∷ byte_at 2 ∷ byte_at 3 ∷ byte_at 4 ∷ l) (sym (rest_is bytes long) ∙ sym (take-append-drop count rest) ∙ ap (λ l. l ++ drop count rest) (sym split.1) ∙ ap (λ l. name ++ l) (sym split.2));
    counts = split.3 ∙ counts;
  }
    where
      rest : List ℕ
      rest = take (length bytes - 5) (drop 5 bytes)

-- ---- whether bytes are left

pub are_left : (l : List ℕ) (r : Bool) → r ≡ (length l == 0) → r ≡ false → l ≡ [] → ⊥
are_left [] r is not e = absurd cc
are_left (x ∷ l) r is not e = absurd cc

pub none_left : (l : List ℕ) → length l ≡ 0 → l ≡ []
none_left [] h = refl
none_left (x ∷ l) h = absurd (omega (arith, h))
