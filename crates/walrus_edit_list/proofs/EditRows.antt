-- Lists of edits: each front is one edit, and bytes are at most one list.
use Rattle.std.proofs.Common.{◌≡◌, ℕ, ◌+◌, ◌≤◌, List, [], ◌∷◌, ◌++◌, Option, Some, None, length, refl, sym, ap, ap₂, ◌∙◌, subst, arith}
use Rattle.std.proofs.lemmas.List.{append-nil, append_assoc, length-append}
use Rattle.wasm_forms.specs.Grammar.{IsRow, at}
use Rattle.wasm_forms.specs.Reading.{◌>>=◌}
use Rattle.wasm_forms.proofs.Exact.{exact, one_reading}
use Rattle.walrus_edit_list.specs.Edits.{AreEdits, HasOneList, IsEdit, Record, Said, edit_at, record_form, said}

some_is : {A : Type 0} (a b : A) → Some a ≡ Some b → a ≡ b
some_is a b same = cc

none_is : {A : Type 0} (a : A) → None ≡ Some a → ⊥
none_is a same = absurd (cc)

-- ---- a list with one more

pub row_more : {A : Type 0} (R : List ℕ → A → Type 0) (bytes more : List ℕ) (xs : List A) (x : A) → IsRow R bytes xs → R more x
    → IsRow R (bytes ++ more) (xs ++ x ∷ [])
row_more R bytes more [] x is h = (more, ([], (ap (λ l. l ++ more) is ∙ sym (append-nil more), h, refl)))
row_more R bytes more (y ∷ xs) x (front, (back, (same, one, rest))) h =
    (front, (back ++ more, (ap (λ l. l ++ more) same ∙ append_assoc front back more, one, row_more R back more xs x rest h)))

-- ---- what is read in front is an edit

said_then : (r : Record) (behind : List ℕ) (e : Said) (rest : List ℕ) (o : Option Said) → said r ≡ o
    → ◌>>=◌ {B = Said × List ℕ} o (λ x. Some (x, behind)) ≡ Some (e, rest) → (said r ≡ Some e) × (behind ≡ rest)
said_then r behind e rest None is h = absurd (none_is (e, rest) h)
said_then r behind e rest (Some f) is h =
    let same : (f, behind) ≡ (e, rest) = some_is (f, behind) (e, rest) h in
    (is ∙ ap (λ (x : Said × List ℕ). Some x.0) same, ap (λ (x : Said × List ℕ). x.1) same)

read_then : (bytes : List ℕ) (e : Said) (rest : List ℕ) (o : Option (Record × List ℕ)) → at record_form bytes ≡ o
    → ◌>>=◌ {B = Said × List ℕ} o (λ x. ◌>>=◌ {B = Said × List ℕ} (said x.0) (λ f. Some (f, x.1))) ≡ Some (e, rest)
    → (front : List ℕ) × ((bytes ≡ front ++ rest) × IsEdit front e)
read_then bytes e rest None is h = absurd (none_is (e, rest) h)
read_then bytes e rest (Some x) is h =
    let two = said_then x.0 x.1 e rest (said x.0) refl h in
    let front = (exact record_form).takes bytes x is in
    (front.0, (front.1.0 ∙ ap (λ l. front.0 ++ l) two.1, (x.0, front.1.1, two.0)))

pub edit_read : (bytes : List ℕ) (e : Said) (rest : List ℕ) → edit_at bytes ≡ Some (e, rest)
    → (front : List ℕ) × ((bytes ≡ front ++ rest) × IsEdit front e)
unfolding edit_at
edit_read bytes e rest h = read_then bytes e rest (at record_form bytes) refl h

-- an edit has a byte at least
pub some_bytes : (bytes : List ℕ) (e : Said) → IsEdit bytes e → 1 ≤ length bytes
some_bytes bytes e (r, (front, (back, (same, first, block))), says) =
    let long : length bytes ≡ length front + length back = ap length same ∙ length-append front back in
    let one : length front ≡ 1 = ap length first in
    omega (arith, long, one)

-- ---- one list

one_edit : (front rest front' rest' : List ℕ) (a b : Said) → front ++ rest ≡ front' ++ rest' → IsEdit front a → IsEdit front' b
    → (a ≡ b) × (rest ≡ rest')
one_edit front rest front' rest' a b same (r, is, says) (s, is', says') =
    let two = one_reading record_form front rest front' rest' r s same is is' in
    (some_is a b (sym says ∙ ap said two.0 ∙ says'), two.1)

none_begins : (front back : List ℕ) (e : Said) → [] ≡ front ++ back → IsEdit front e → ⊥
none_begins front back e same is =
    let long : 0 ≡ length front + length back = ap length same ∙ length-append front back in
    absurd (omega (arith, long, some_bytes front e is))

pub one_row : HasOneList
one_row bytes [] [] is are = refl
one_row bytes [] (f ∷ fs) is (front, (back, (same, one, more))) = absurd (none_begins front back f (sym is ∙ same) one)
one_row bytes (e ∷ es) [] (front, (back, (same, one, more))) is = absurd (none_begins front back e (sym is ∙ same) one)
one_row bytes (e ∷ es) (f ∷ fs) (front, (back, (same, one, more))) (front', (back', (same', one', more'))) =
    let two = one_edit front back front' back' e f (sym same ∙ same') one one' in
    ap₂ (λ (x : Said) (xs : List Said). x ∷ xs) two.0 (one_row back' es fs (subst (λ (l : List ℕ). AreEdits l es) two.1 more) more')
