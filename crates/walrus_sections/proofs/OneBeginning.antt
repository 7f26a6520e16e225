-- To any bytes there is one answer.
use Rattle.std.proofs.Common.{◌≡◌, ℕ, zero, suc, ◌<◌, Bool, true, false, ◌&&◌, List, [], ◌∷◌, ◌++◌, take}
use Rattle.std.proofs.Common.{eqb, refl, sym, ap₂, ◌∙◌, subst, arith, inl, inr, ◌⊎◌, ⊎_elim}
use Rattle.std.specs.Prelude.{All, Option, Some, None, if◌then◌else◌, ◌||◌, ◌==◌}
use Rattle.std.proofs.lemmas.Bool.{eqb-true, and_parts as and_both, false≢true as untrue}
use Rattle.std.proofs.lemmas.List.Elements.{recursion_from_All}
use Rattle.walrus_sections.specs.Beginnings.{AnswersBeginning, Begins, HasOneBeginning, IsText, Stands, component, header, is_space, zstd}
use Rattle.walrus_sections.specs.declared.beginnings.Beginning.{Beginning}
use Rattle.walrus_sections.specs.declared.beginnings.Beginning.TheVariants.{Bitcode, Component, Cut, Elf, Empty, Gzip, Other, OtherVersion, Text}
use Rattle.walrus_sections.specs.declared.beginnings.Beginning.TheVariants.{Zip, Zstd}

abbrev starts : (front bytes : List ℕ) → Bool
starts [] bytes = true
starts (f ∷ fs) [] = false
starts (f ∷ fs) (b ∷ bs) = eqb f b && starts fs bs

starts_so : (front bytes : List ℕ) → starts front bytes ≡ true → Begins bytes front
starts_so [] bytes t = (bytes, refl)
starts_so (f ∷ fs) [] t = absurd (untrue t)
starts_so (f ∷ fs) (b ∷ bs) t =
    let p = and_both (eqb f b) (starts fs bs) t in
    let r = starts_so fs bs p.1 in
    let e : b ≡ f = sym (eqb-true f b p.0) in
    let g : bs ≡ fs ++ r.0 = r.1 in
    (r.0, cc)

starts_not : (front bytes : List ℕ) → ¬ Begins bytes front → starts front bytes ≡ false
starts_not front bytes differ = by_test (starts front bytes) refl
  where
    by_test : (t : Bool) → starts front bytes ≡ t → t ≡ false
    by_test true e = absurd (differ (starts_so front bytes e))
    by_test false e = refl

abbrev is_long : List ℕ → Bool
is_long (a ∷ b ∷ c ∷ d ∷ e ∷ f ∷ g ∷ h ∷ rest) = true
is_long _ = false

abbrev is_version : List ℕ → Bool
is_version bytes = starts (0x00 ∷ 0x61 ∷ 0x73 ∷ 0x6D ∷ []) bytes && is_long bytes

-- nothing, or what begins as a header, or else text
abbrev last_of : List ℕ → Beginning
last_of [] = Empty
last_of (zero ∷ rest) = Cut
last_of (suc b ∷ rest) = Text

abbrev versions_of : (is_module is_component : Bool) → List ℕ → Option Beginning
versions_of true is_component bytes = None
versions_of false true bytes = Some Component
versions_of false false bytes = Some (if is_version bytes then OtherVersion else last_of bytes)

-- the answer that bytes can have beside `Other`
abbrev first_of : List ℕ → Option Beginning
first_of bytes = if starts (0x1F ∷ 0x8B ∷ []) bytes then Some Gzip
    else if starts (0x50 ∷ 0x4B ∷ []) bytes then Some Zip
    else if starts (0x7F ∷ 0x45 ∷ []) bytes then Some Elf
    else if starts (0x42 ∷ 0x43 ∷ []) bytes then Some Bitcode
    else if starts (0xDE ∷ 0xC0 ∷ []) bytes then Some Bitcode
    else if starts zstd bytes then Some Zstd
    else versions_of (starts header bytes) (starts component bytes) bytes

or_cases : (x y : Bool) → (x || y) ≡ true → (x ≡ true) ⊎ (y ≡ true)
or_cases true y e = inl refl
or_cases false y e = inr e

-- bytes that begin with white space have no answer but text
white_first : (s : ℕ) (ss : List ℕ) → is_space s ≡ true → first_of (s ∷ ss) ≡ Some Text
white_first s ss white = ⊎_elim
    (λ h. ⊎_elim (λ g. ⊎_elim (λ f. at 0x20 f refl) (λ f. at 0x09 f refl) (or_cases (s == 0x20) (s == 0x09) g)) (λ g. at 0x0A g refl)
    (or_cases (s == 0x20 || s == 0x09) (s == 0x0A) h))
    (λ h. at 0x0D h refl) (or_cases (s == 0x20 || s == 0x09 || s == 0x0A) (s == 0x0D) white)
  where
    at : (k : ℕ) → (s == k) ≡ true → first_of (k ∷ ss) ≡ Some Text → first_of (s ∷ ss) ≡ Some Text
    at k t e = subst (λ x. first_of (x ∷ ss) ≡ Some Text) (sym (eqb-true s k t)) e

bracket_first : (rest : List ℕ) → starts zstd (0x28 ∷ rest) ≡ false → first_of (0x28 ∷ rest) ≡ Some Text
bracket_first rest differ = rw differ refl

text_first : (bytes : List ℕ) → IsText bytes → starts zstd bytes ≡ false → first_of bytes ≡ Some Text
text_first bytes (space, text, e, all, opens) differ = by_space space e all
  where
    by_space : (space : List ℕ) → bytes ≡ space ++ text → All (λ byte. is_space byte ≡ true) space → first_of bytes ≡ Some Text
    by_space [] e all = ⊎_elim
        (λ (f : Begins text (0x28 ∷ [])). let g : bytes ≡ 0x28 ∷ f.0 = e ∙ f.1 in
        rw g (bracket_first f.0 (subst (λ l. starts zstd l ≡ false) g differ)))
        (λ (f : Begins text (0x3B ∷ 0x3B ∷ [])). let g : bytes ≡ 0x3B ∷ 0x3B ∷ f.0 = e ∙ f.1 in rw g refl) opens
    by_space (s ∷ ss) e all = rw e (white_first s (ss ++ text) (recursion_from_All (λ byte. is_space byte ≡ true) (s ∷ ss) all).0)

cut_first : (n : ℕ) → 0 < n → n < 8 → first_of (take n header) ≡ Some Cut
cut_first zero low high = absurd (omega (arith, low))
cut_first (suc zero) low high = refl
cut_first (suc (suc zero)) low high = refl
cut_first (suc (suc (suc zero))) low high = refl
cut_first (suc (suc (suc (suc zero)))) low high = refl
cut_first (suc (suc (suc (suc (suc zero))))) low high = refl
cut_first (suc (suc (suc (suc (suc (suc zero)))))) low high = refl
cut_first (suc (suc (suc (suc (suc (suc (suc zero))))))) low high = refl
cut_first (suc (suc (suc (suc (suc (suc (suc (suc m)))))))) low high = absurd (omega (arith, high))

version_first : (bytes : List ℕ) → Stands bytes OtherVersion → first_of bytes ≡ Some OtherVersion
version_first bytes ((a, b, c, d, (rest, e)), no_module, no_component) =
    let whole = 0x00 ∷ 0x61 ∷ 0x73 ∷ 0x6D ∷ a ∷ b ∷ c ∷ d ∷ rest in
    let f : starts header whole ≡ false = subst (λ l. starts header l ≡ false) e (starts_not header bytes no_module) in
    let g : starts component whole ≡ false = subst (λ l. starts component l ≡ false) e (starts_not component bytes no_component) in
    rw e (ap₂ (λ x y. versions_of x y whole) f g)

found : (bytes : List ℕ) (kind : Beginning) → Stands bytes kind → first_of bytes ≡ Some kind
found bytes Empty e = rw e refl
found bytes Cut (n, low, high, e) = rw e (cut_first n low high)
found bytes Gzip (rest, e) = rw e refl
found bytes Zip s = ⊎_elim (λ f. rw f.1 refl) (λ f. rw f.1 refl) s
found bytes Zstd (rest, e) = rw e refl
found bytes Elf (rest, e) = rw e refl
found bytes Bitcode s = ⊎_elim (λ f. rw f.1 refl) (λ f. rw f.1 refl) s
found bytes Text (t, differ) = text_first bytes t (starts_not zstd bytes differ)
found bytes Component (rest, e) = rw e refl
found bytes OtherVersion s = version_first bytes s
found bytes Other s = absurd s

-- something else than `Other` is said of the bytes, and it is this
abbrev IsKnown : List ℕ → Option Beginning → Type 0
IsKnown bytes answer = (Begins bytes header ⊎ ((kind : Beginning) × Stands bytes kind)) × (first_of bytes ≡ answer)

abbrev IsOther : List ℕ → Option Beginning → Type 0
IsOther bytes answer = ((kind : Beginning) → ¬ Stands bytes kind) × ¬ Begins bytes header × (answer ≡ Some Other)

known : (bytes : List ℕ) (kind : Beginning) → Stands bytes kind → IsKnown bytes (Some kind)
known bytes kind s = (inr (kind, s), found bytes kind s)

told : (bytes : List ℕ) (answer : Option Beginning) → AnswersBeginning bytes answer → IsKnown bytes answer ⊎ IsOther bytes answer
told bytes None h = inl (inl h, rw h.1 refl)
told bytes (Some Empty) h = inl (known bytes Empty h)
told bytes (Some Cut) h = inl (known bytes Cut h)
told bytes (Some Gzip) h = inl (known bytes Gzip h)
told bytes (Some Zip) h = inl (known bytes Zip h)
told bytes (Some Zstd) h = inl (known bytes Zstd h)
told bytes (Some Elf) h = inl (known bytes Elf h)
told bytes (Some Bitcode) h = inl (known bytes Bitcode h)
told bytes (Some Text) h = inl (known bytes Text h)
told bytes (Some Component) h = inl (known bytes Component h)
told bytes (Some OtherVersion) h = inl (known bytes OtherVersion h)
told bytes (Some Other) h = inr (h.0, h.1, refl)

apart : (bytes : List ℕ) (one another : Option Beginning) → IsKnown bytes one → IsOther bytes another → ⊥
apart bytes one another k o = ⊎_elim (λ h. o.1 h) (λ s. o.0 s.0 s.1) k.0

pub one_beginning : HasOneBeginning
one_beginning bytes one another a b = ⊎_elim
    (λ k. ⊎_elim (λ l. sym k.1 ∙ l.1) (λ o. absurd (apart bytes one another k o)) (told bytes another b))
    (λ o. ⊎_elim (λ k. absurd (apart bytes another one k o)) (λ p. o.2 ∙ sym p.2) (told bytes another b))
    (told bytes one a)
