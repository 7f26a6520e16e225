-- Modules: their bytes hold one thing.
use Rattle.std.proofs.Common.{◌≡◌, ℕ, ◌+◌, List, [], ◌∷◌, ◌++◌, length, refl, sym, ap, subst, ◌∙◌, arith, length-append}
use Rattle.std.specs.Prelude.{Some}
use Rattle.wasm_forms.proofs.Bind.{some_same}
use Rattle.wasm_frames.specs.Frames.{Section, id_of, IsSection, AreSections, gathered, header, HasOneRecord}
use Rattle.wasm_frames.specs.Steps.{section_at}
use Rattle.wasm_frames.proofs.Sections.{section_exact}

not_nil : (x : ℕ) (xs ys : List ℕ) → [] ≡ (x ∷ xs) ++ ys → ⊥
not_nil x xs ys e = cc

pub no_section : (place : ℕ) (front back : List ℕ) (s : Section) → IsSection place front s → [] ≡ front ++ back → ⊥
no_section place front back s h e =
    let f : [] ≡ (id_of s ∷ (h.size ++ h.content)) ++ back = e ∙ ap (λ l. l ++ back) h.spelled in
    not_nil (id_of s) (h.size ++ h.content) back f

cons_same : (s s' : Section) (ss ss' : List Section) → s ≡ s' → ss ≡ ss' → s ∷ ss ≡ s' ∷ ss'
cons_same s s' ss ss' e f = cc

-- no bytes are two lists of sections
one_list : (ss ss' : List Section) (place : ℕ) (bytes bytes' : List ℕ) → bytes ≡ bytes' → AreSections place bytes ss → AreSections place bytes' ss' → ss ≡ ss'
one_list [] [] place bytes bytes' e h h' = refl
one_list [] (s ∷ ss') place bytes bytes' e h h' = absurd (no_section place h'.0 h'.1.0 s h'.1.1.1 (sym h ∙ e ∙ h'.1.1.0))
one_list (s ∷ ss) [] place bytes bytes' e h h' = absurd (no_section place h.0 h.1.0 s h.1.1.1 (sym h' ∙ sym e ∙ h.1.1.0))
one_list (s ∷ ss) (s' ∷ ss') place bytes bytes' e h h' =
    let ends : h.0 ++ h.1.0 ≡ h'.0 ++ h'.1.0 = sym h.1.1.0 ∙ e ∙ h'.1.1.0 in
    let both : Some (s, h.1.0) ≡ Some (s', h'.1.0) = sym ((section_exact place).again h.0 h.1.0 s h.1.1.1) ∙ ap (section_at place) ends ∙ (section_exact place).again h'.0 h'.1.0 s' h'.1.1.1 in
    let same : (s, h.1.0) ≡ (s', h'.1.0) = some_same (s, h.1.0) (s', h'.1.0) both in
    let rests : h.1.0 ≡ h'.1.0 = ap (λ (x : Section × List ℕ). x.1) same in
    let far : length h.0 ≡ length h'.0 = omega (arith, ap length ends, ap length rests, length-append h.0 h.1.0, length-append h'.0 h'.1.0) in
    let onward : AreSections (place + length h.0) h'.1.0 ss' = subst (λ (n : ℕ). AreSections (place + n) h'.1.0 ss') (sym far) h'.1.1.2 in
    cons_same s s' ss ss' (ap (λ (x : Section × List ℕ). x.0) same) (one_list ss ss' (place + length h.0) h.1.0 h'.1.0 rests h.1.1.2 onward)

pub behind_header : (bytes rest rest' : List ℕ) → bytes ≡ header ++ rest → bytes ≡ header ++ rest' → rest ≡ rest'
behind_header bytes rest rest' e f = let g : header ++ rest ≡ header ++ rest' = sym e ∙ f in cc

pub one_record_lem : HasOneRecord
one_record_lem = λ bytes m n h h'.
    let rests = behind_header bytes h.rest h'.rest h.headed h'.headed in
    h.holds ∙ ap gathered (one_list h.parts h'.parts 8 h.rest h'.rest rests h.framed h'.framed) ∙ sym h'.holds
