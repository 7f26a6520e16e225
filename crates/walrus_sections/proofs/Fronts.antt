-- What tests of the front of bytes decide.
use Rattle.std.proofs.Common.{◌≡◌, ℕ, zero, suc, ◌+◌, ◌<◌, ◌≤◌, Bool, true, false, List, [], ◌∷◌, ◌++◌, length, take, drop, get_or}
use Rattle.std.proofs.Common.{eqb, refl, sym, ap, ◌∙◌, subst, arith, ⊎_elim}
use Rattle.std.specs.Bool.{Decides}
use Rattle.std.specs.Prelude.{All, ◌==◌}
use Rattle.std.specs.Cmp.Lexicographic.{pointwise}
use Rattle.std.proofs.Math.Seq.{take-append_seam}
use Rattle.std.proofs.lemmas.Bool.{false≢true as untrue}
use Rattle.std.proofs.lemmas.Bool.Decides.{Decides-eqb}
use Rattle.std.proofs.lemmas.List.{at_drop_more, length-append, take-append-drop}
use Rattle.std.proofs.lemmas.List.Elements.{All-nil, All-cons, All-from_recursion, recursion_from_All}
use Rattle.std.proofs.lemmas.Slice.Eq.{starts_is}
use Rattle.walrus_base.proofs.Lookups.{heads}
use Rattle.walrus_sections.specs.Beginnings.{Begins, HasVersion, IsText, OpensText, Stands, header, is_space}
use Rattle.walrus_sections.specs.declared.beginnings.Beginning.{Beginning}
use Rattle.walrus_sections.specs.declared.beginnings.Beginning.TheVariants.{Bitcode, Component, Cut, Elf, Empty, Gzip, Other, OtherVersion, Text}
use Rattle.walrus_sections.specs.declared.beginnings.Beginning.TheVariants.{Zip, Zstd}

pub begins_decided : (r : Bool) (bytes front : List ℕ) → r ≡ pointwise eqb front (take (length front) bytes) → Decides r (Begins bytes front)
begins_decided r bytes front e =
    let p = starts_is Decides-eqb bytes front r e in
    (λ t. (drop (length front) bytes, p.0 t), λ b. p.1 b.0 b.1)

some_long : (n : ℕ) → (n == 0) ≡ false → 0 < n
some_long zero e = absurd (untrue (sym e))
some_long (suc n) e = omega arith

pub cut_decided : (r : Bool) (bytes : List ℕ) → (length bytes == 0) ≡ false → length bytes < 8
    → Decides r (Begins header bytes) → Decides r (Stands bytes Cut)
cut_decided r bytes some few d = (λ t. to (d.0 t), λ s. d.1 (back s))
  where
    to : Begins header bytes → Stands bytes Cut
    to b = (length bytes, some_long (length bytes) some, few, sym (take-append_seam bytes b.0) ∙ ap (λ l. take (length bytes) l) (sym b.1))

    back : Stands bytes Cut → Begins header bytes
    back s = (drop s.0 header, sym (take-append-drop s.0 header) ∙ ap (λ l. l ++ drop s.0 header) (sym s.3))

-- ---- the magic and four bytes

abbrev magic : List ℕ
magic = 0x00 ∷ 0x61 ∷ 0x73 ∷ 0x6D ∷ []

four : (rest : List ℕ) → 4 ≤ length rest → (a b c d : ℕ) × ((tail : List ℕ) × (rest ≡ a ∷ b ∷ c ∷ d ∷ tail))
four [] h = absurd (omega (arith, h))
four (a ∷ []) h = absurd (omega (arith, h))
four (a ∷ b ∷ []) h = absurd (omega (arith, h))
four (a ∷ b ∷ c ∷ []) h = absurd (omega (arith, h))
four (a ∷ b ∷ c ∷ d ∷ tail) h = (a, b, c, d, (tail, refl))

pub version_decided : (r : Bool) (bytes : List ℕ) → 8 ≤ length bytes → Decides r (Begins bytes magic) → Decides r (HasVersion bytes)
version_decided r bytes long d = (λ t. to (d.0 t), λ h. d.1 (back h))
  where
    to : Begins bytes magic → HasVersion bytes
    to (rest, e) =
        let sum : length bytes ≡ 4 + length rest = ap length e ∙ length-append magic rest in
        let (a, b, c, d, (tail, f)) = four rest (omega (arith, sum, long)) in
        (a, b, c, d, (tail, e ∙ ap (λ l. magic ++ l) f))

    back : HasVersion bytes → Begins bytes magic
    back (a, b, c, d, (rest, e)) = (a ∷ b ∷ c ∷ d ∷ rest, e)

-- ---- text behind white space

abbrev White : ℕ → Type 0
White byte = is_space byte ≡ true

pub opens_apart : (b : ℕ) (bs : List ℕ) → OpensText (b ∷ bs) → is_space b ≡ false
opens_apart b bs opens = ⊎_elim (λ f. ap is_space (heads b 0x28 bs f.0 f.1).0) (λ f. ap is_space (heads b 0x3B bs (0x3B ∷ f.0) f.1).0) opens

-- white space in front makes no difference
text_behind : (b : ℕ) (bs : List ℕ) → is_space b ≡ true → IsText (b ∷ bs) → IsText bs
text_behind b bs white (space, text, e, all, opens) = by_space space e all
  where
    by_space : (space : List ℕ) → b ∷ bs ≡ space ++ text → All White space → IsText bs
    by_space [] e all = absurd (untrue (sym (opens_apart b bs (subst OpensText (sym e) opens)) ∙ white))
    by_space (s ∷ ss) e all =
        (ss, text, (heads b s bs (ss ++ text) e).1, All-from_recursion White ss (recursion_from_All White (s ∷ ss) all).1, opens)

text_before : (b : ℕ) (bs : List ℕ) → is_space b ≡ true → IsText bs → IsText (b ∷ bs)
text_before b bs white (space, text, e, all, opens) = (b ∷ space, text, ap (λ l. b ∷ l) e, All-cons White b space white all, opens)

text_at_once : (b : ℕ) (bs : List ℕ) → is_space b ≡ false → IsText (b ∷ bs) → OpensText (b ∷ bs)
text_at_once b bs black (space, text, e, all, opens) = by_space space e all
  where
    by_space : (space : List ℕ) → b ∷ bs ≡ space ++ text → All White space → OpensText (b ∷ bs)
    by_space [] e all = subst OpensText (sym e) opens
    by_space (s ∷ ss) e all = absurd (untrue (sym black ∙ ap is_space (heads b s bs (ss ++ text) e).0 ∙ (recursion_from_All White (s ∷ ss) all).0))

opened_text : (bytes : List ℕ) → OpensText bytes → IsText bytes
opened_text bytes opens = ([], bytes, refl, All-nil White, opens)

-- they are text where what is left from a place on is text
abbrev pub TextFrom : ℕ → List ℕ → Type 0
TextFrom at bytes = (IsText (drop at bytes) → IsText bytes) × (IsText bytes → IsText (drop at bytes))

pub text_next : (at : ℕ) (bytes : List ℕ) → at < length bytes → is_space (get_or bytes at 0) ≡ true → TextFrom at bytes → TextFrom (at + 1) bytes
text_next at bytes in' white same =
    let here : drop at bytes ≡ get_or bytes at 0 ∷ drop (at + 1) bytes = at_drop_more (λ l. l) bytes at 0 in' in
    let b = get_or bytes at 0 in
    let bs = drop (at + 1) bytes in
    (λ t. same.0 (subst IsText (sym here) (text_before b bs white t)), λ t. text_behind b bs white (subst IsText here (same.1 t)))

pub text_here : (at : ℕ) (bytes : List ℕ) → at < length bytes → is_space (get_or bytes at 0) ≡ false → TextFrom at bytes
    → (r : Bool) → Decides r (OpensText (drop at bytes)) → Decides r (IsText bytes)
text_here at bytes in' black same r d =
    let here : drop at bytes ≡ get_or bytes at 0 ∷ drop (at + 1) bytes = at_drop_more (λ l. l) bytes at 0 in' in
    let opens : IsText (drop at bytes) → OpensText (drop at bytes) = λ t.
    subst OpensText (sym here) (text_at_once (get_or bytes at 0) (drop (at + 1) bytes) black (subst IsText here t)) in
    (λ t. same.0 (opened_text (drop at bytes) (d.0 t)), λ t. d.1 (opens (same.1 t)))

-- ---- none of the beginnings

pub none_stands : (bytes : List ℕ) → ¬ Stands bytes Empty → ¬ Stands bytes Cut → ¬ Stands bytes Gzip → ¬ Stands bytes Zip
    → ¬ Stands bytes Zstd → ¬ Stands bytes Elf → ¬ Stands bytes Bitcode → ¬ IsText bytes → ¬ Stands bytes Component → ¬ HasVersion bytes
    → (kind : Beginning) → ¬ Stands bytes kind
none_stands bytes empty cut gzip zip zst elf bitcode text comp version Empty s = empty s
none_stands bytes empty cut gzip zip zst elf bitcode text comp version Cut s = cut s
none_stands bytes empty cut gzip zip zst elf bitcode text comp version Gzip s = gzip s
none_stands bytes empty cut gzip zip zst elf bitcode text comp version Zip s = zip s
none_stands bytes empty cut gzip zip zst elf bitcode text comp version Zstd s = zst s
none_stands bytes empty cut gzip zip zst elf bitcode text comp version Elf s = elf s
none_stands bytes empty cut gzip zip zst elf bitcode text comp version Bitcode s = bitcode s
none_stands bytes empty cut gzip zip zst elf bitcode text comp version Text s = text s.0
none_stands bytes empty cut gzip zip zst elf bitcode text comp version Component s = comp s
none_stands bytes empty cut gzip zip zst elf bitcode text comp version OtherVersion s = version s.0
none_stands bytes empty cut gzip zip zst elf bitcode text comp version Other s = s
