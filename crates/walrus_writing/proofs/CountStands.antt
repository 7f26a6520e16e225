-- The count of functions stands at one place: bytes begin with one number in its spelling, and so with one section.
use Rattle.std.proofs.Common.{◌≡◌, ◌⊎◌, inl, inr, ℕ, zero, suc, ◌+◌, ◌/◌, ◌%◌, ◌<◌, ◌≤◌, true, false, leb, List, [], ◌∷◌, ◌++◌, length, refl, sym, ap, ap₂, ◌∙◌, arith, append_assoc}
use Rattle.std.specs.Prelude.{◌≢◌, All}
use Rattle.std.proofs.lemmas.Bool.Decides.{leb_tells}
use Rattle.std.proofs.lemmas.List.Elements.{All-head, All-tail}
use Rattle.wasm_forms.specs.Spelling.{block_bytes, groups, number_bytes}
use Rattle.wasm_forms.proofs.Groups.{groups-last, groups-more}
use Rattle.wasm_frames.specs.Record as wire
use Rattle.wasm_frames.specs.Frames.{Section, Code, header, id_of}
use Rattle.wasm_writer.specs.Spelling.{all_spelled, content_bytes, spelled}
use Rattle.walrus_writing.specs.Transform.{CountStandsAt}

-- ---- numbers

heads : (a b : ℕ) (r s : List ℕ) → a ∷ r ≡ b ∷ s → (a ≡ b) × (r ≡ s)
heads a b r s e = let p : a ≡ b = cc in let q : r ≡ s = cc in (p, q)

-- below 128, and from there on
abbrev ByStop : ℕ → Type 0
ByStop n = ((leb 128 n ≡ true) × (128 ≤ n)) ⊎ ((leb 128 n ≡ false) × (n < 128))

abbrev Fronts : ℕ → Type 0
Fronts most = (n m : ℕ) (r s : List ℕ) → groups false 128 most n ++ r ≡ groups false 128 most m ++ s → (n ≡ m) × (r ≡ s)

groups_next : (most n m : ℕ) (r s : List ℕ) → Fronts most → ByStop n → ByStop m → groups false 128 (suc most) n ++ r ≡ groups false 128 (suc most) m ++ s → (n ≡ m) × (r ≡ s)
groups_next most n m r s more (inl h) (inl k) e =
    let p = heads (128 + n % 128) (128 + m % 128) (groups false 128 most (n / 128) ++ r) (groups false 128 most (m / 128) ++ s)
    (ap (λ (l : List ℕ). l ++ r) (sym (groups-more false 128 most n h.1)) ∙ e ∙ ap (λ (l : List ℕ). l ++ s) (groups-more false 128 most m k.1)) in
    let q = more (n / 128) (m / 128) r s p.1 in
    let low : 128 + n % 128 ≡ 128 + m % 128 = p.0 in
    let high : n / 128 ≡ m / 128 = q.0 in
    (omega (arith, low, high), q.1)
groups_next most n m r s more (inl h) (inr k) e =
    let p = heads (128 + n % 128) m (groups false 128 most (n / 128) ++ r) s
    (ap (λ (l : List ℕ). l ++ r) (sym (groups-more false 128 most n h.1)) ∙ e ∙ ap (λ (l : List ℕ). l ++ s) (groups-last false 128 most m k.1)) in
    let low : m < 128 = k.1 in
    let same : 128 + n % 128 ≡ m = p.0 in
    absurd (omega (arith, low, same))
groups_next most n m r s more (inr h) (inl k) e =
    let p = heads n (128 + m % 128) r (groups false 128 most (m / 128) ++ s)
    (ap (λ (l : List ℕ). l ++ r) (sym (groups-last false 128 most n h.1)) ∙ e ∙ ap (λ (l : List ℕ). l ++ s) (groups-more false 128 most m k.1)) in
    let low : n < 128 = h.1 in
    let same : n ≡ 128 + m % 128 = p.0 in
    absurd (omega (arith, low, same))
groups_next most n m r s more (inr h) (inr k) e =
    heads n m r s (ap (λ (l : List ℕ). l ++ r) (sym (groups-last false 128 most n h.1)) ∙ e ∙ ap (λ (l : List ℕ). l ++ s) (groups-last false 128 most m k.1))

groups_front : (most : ℕ) → Fronts most
unfolding groups
groups_front zero n m r s e = heads n m r s e
groups_front (suc most) n m r s e = groups_next most n m r s (groups_front most) (leb_tells 128 n) (leb_tells 128 m) e

pub number_front : (n m : ℕ) (r s : List ℕ) → number_bytes n ++ r ≡ number_bytes m ++ s → (n ≡ m) × (r ≡ s)
unfolding number_bytes
number_front n m r s e = groups_front 9 n m r s e

-- ---- sections

split_at : (c d r s : List ℕ) → length c ≡ length d → c ++ r ≡ d ++ s → (c ≡ d) × (r ≡ s)
split_at [] [] r s same e = (refl, e)
split_at [] (b ∷ d) r s same e = absurd (omega (arith, same))
split_at (a ∷ c) [] r s same e = absurd (omega (arith, same))
split_at (a ∷ c) (b ∷ d) r s same e =
    let p = heads a b (c ++ r) (d ++ s) e in
    let rest : length c ≡ length d = omega (arith, same) in
    let q = split_at c d r s rest p.1 in
    (ap₂ ◌∷◌ p.0 q.0, q.1)

block_front : (c d r s : List ℕ) → block_bytes c ++ r ≡ block_bytes d ++ s → (c ≡ d) × (r ≡ s)
block_front c d r s e =
    let p = number_front (length c) (length d) (c ++ r) (d ++ s) (sym (append_assoc (number_bytes (length c)) c r) ∙ e ∙ append_assoc (number_bytes (length d)) d s) in
    split_at c d r s p.0 p.1

-- bytes begin with one section, whatever stands behind it
pub record SameFront (x y : Section) (r s : List ℕ) : Type 0 where
  pub ids : id_of x ≡ id_of y
  pub contents : content_bytes x ≡ content_bytes y
  pub rests : r ≡ s

section_front : (x y : Section) (r s : List ℕ) → spelled x ++ r ≡ spelled y ++ s → SameFront x y r s
section_front x y r s e =
    let p = heads (id_of x) (id_of y) (block_bytes (content_bytes x) ++ r) (block_bytes (content_bytes y) ++ s) e in
    let q = block_front (content_bytes x) (content_bytes y) r s p.1 in
    record { ids = p.0; contents = q.0; rests = q.1 }

-- ---- the first code section

module _ (cs ds : List wire.Body) (r s : List Section) where
  abbrev NoCode : List Section → Type 0
  NoCode before = All (λ (x : Section). id_of x ≢ 10) before

  one_code : (before front : List Section) → NoCode before → NoCode front → all_spelled (before ++ Code cs ∷ r) ≡ all_spelled (front ++ Code ds ∷ s)
      → content_bytes (Code cs) ++ all_spelled r ≡ content_bytes (Code ds) ++ all_spelled s
  one_code [] [] h k e = let p = section_front (Code cs) (Code ds) (all_spelled r) (all_spelled s) e in ap₂ ◌++◌ p.contents p.rests
  one_code [] (y ∷ front) h k e =
      let p = section_front (Code cs) y (all_spelled r) (all_spelled (front ++ Code ds ∷ s)) e in
      absurd (All-head (λ (x : Section). id_of x ≢ 10) y front k (sym p.ids))
  one_code (x ∷ before) [] h k e =
      let p = section_front x (Code ds) (all_spelled (before ++ Code cs ∷ r)) (all_spelled s) e in
      absurd (All-head (λ (x : Section). id_of x ≢ 10) x before h p.ids)
  one_code (x ∷ before) (y ∷ front) h k e =
      let p = section_front x y (all_spelled (before ++ Code cs ∷ r)) (all_spelled (front ++ Code ds ∷ s)) e in
      one_code before front (All-tail (λ (x : Section). id_of x ≢ 10) x before h) (All-tail (λ (x : Section). id_of x ≢ 10) y front k) p.rests

behind_header : (r s : List ℕ) → header ++ r ≡ header ++ s → r ≡ s
behind_header r s e = (split_at header header r s refl e).1

pub one_count : (bytes : List ℕ) (p q : ℕ) → CountStandsAt bytes p → CountStandsAt bytes q → p ≡ q
one_count bytes p q a b =
    let same = one_code a.bodies b.bodies a.behind b.behind a.before b.before a.first b.first (behind_header _ _ (sym a.written ∙ b.written)) in
    let first : length bytes ≡ p + length (content_bytes (Code a.bodies) ++ all_spelled a.behind) = a.stands in
    let second : length bytes ≡ q + length (content_bytes (Code b.bodies) ++ all_spelled b.behind) = b.stands in
    let long : length (content_bytes (Code a.bodies) ++ all_spelled a.behind) ≡ length (content_bytes (Code b.bodies) ++ all_spelled b.behind) = ap length same in
    omega (arith, first, second, long)
