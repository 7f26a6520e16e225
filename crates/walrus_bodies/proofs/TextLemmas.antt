-- So many operators in front of bytes: how many they are, the first one taken, and where they stand.
use Rattle.std.proofs.Common.{◌≡◌, ℕ, suc, ◌+◌, ◌-◌, ◌≤◌, true, false, List, [], ◌∷◌, length, refl, ap, ◌∙◌, sym, subst, arith, length-append}
use Rattle.std.specs.Prelude.{Option, Some, None}
use Rattle.std.proofs.lemmas.List.{append-nil}
use Rattle.wasm_forms.specs.Reading.{◌>>=◌}
use Rattle.wasm_forms.specs.Grammar.{Row, Is, IsRow, at, row_at}
use Rattle.wasm_forms.proofs.Exact.{exact}
use Rattle.wasm_text.specs.Operators.{Op}
use Rattle.wasm_text.specs.Forms.{operator}
use Rattle.walrus_bodies.specs.Texts.{values, is_whole, read_in_front, texts_at, are_operators, places_at, behind_first}

pub whole_is : (read : Option (List Op × List ℕ)) → is_whole read ≡ true → read ≡ Some (values read, [])
whole_is None w = absurd cc
whole_is (Some (ops, [])) w = refl
whole_is (Some (ops, b ∷ rest)) w = absurd cc

-- ---- how many, and the relation

-- bytes that are so many operators, as the relation says it
pub row_of : (count : ℕ) (bytes : List ℕ) → are_operators count bytes ≡ true → Is (Row operator count) bytes (texts_at count bytes)
row_of count bytes w =
    let t = (exact (Row operator count)).takes bytes (texts_at count bytes, []) (whole_is (read_in_front count bytes) w) in
    subst (λ (bs : List ℕ). Is (Row operator count) bs (texts_at count bytes)) (sym (t.1.0 ∙ append-nil t.0)) t.1.1

-- and back
pub read_row : (bytes : List ℕ) (texts : List Op) → IsRow (Is operator) bytes texts → read_in_front (length texts) bytes ≡ Some (texts, [])
read_row bytes texts row = ap (at (Row operator (length texts))) (sym (append-nil bytes)) ∙ (exact (Row operator (length texts))).again bytes [] texts (row, refl)

pub whole_row : (bytes : List ℕ) (texts : List Op) → IsRow (Is operator) bytes texts → are_operators (length texts) bytes ≡ true
whole_row bytes texts row = ap is_whole (read_row bytes texts row)

pub texts_row : (bytes : List ℕ) (texts : List Op) → IsRow (Is operator) bytes texts → texts_at (length texts) bytes ≡ texts
texts_row bytes texts row = ap values (read_row bytes texts row)

-- ---- the first one

abbrev led_by : Op → Option (List Op × List ℕ) → Option (List Op × List ℕ)
led_by x read = read >>= λ xs. Some (x ∷ xs.0, xs.1)

led_whole : (x : Op) (read : Option (List Op × List ℕ)) → is_whole (led_by x read) ≡ true → (is_whole read ≡ true) × (values (led_by x read) ≡ x ∷ values read)
led_whole x None w = absurd cc
led_whole x (Some (ops, [])) w = (refl, refl)
led_whole x (Some (ops, b ∷ rest)) w = absurd cc

row_led : (n : ℕ) (bytes : List ℕ) (x : Op × List ℕ) → at operator bytes ≡ Some x → read_in_front (suc n) bytes ≡ led_by x.0 (read_in_front n x.1)
unfolding row_at
row_led n bytes x is = rw is refl

pub first_taken : (count n : ℕ) (bytes : List ℕ) (x : Op × List ℕ) → count ≡ suc n → at operator bytes ≡ Some x → are_operators count bytes ≡ true → (are_operators n x.1 ≡ true) × (texts_at count bytes ≡ x.0 ∷ texts_at n x.1)
first_taken count n bytes x more is w =
    let whole : are_operators (suc n) bytes ≡ true = subst (λ (k : ℕ). are_operators k bytes ≡ true) more w in
    let led = row_led n bytes x is in
    let parts = led_whole x.0 (read_in_front n x.1) (ap is_whole (sym led) ∙ whole) in
    (parts.0, ap (λ (k : ℕ). texts_at k bytes) more ∙ ap values led ∙ parts.1)

row_none : (n : ℕ) (bytes : List ℕ) → at operator bytes ≡ None → read_in_front (suc n) bytes ≡ None
unfolding row_at
row_none n bytes none = rw none refl

pub first_stands : (count n : ℕ) (bytes : List ℕ) → count ≡ suc n → are_operators count bytes ≡ true → at operator bytes ≡ None → ⊥
first_stands count n bytes more w none =
    let whole : are_operators (suc n) bytes ≡ true = subst (λ (k : ℕ). are_operators k bytes ≡ true) more w in
    let no : false ≡ true = ap is_whole (sym (row_none n bytes none)) ∙ whole in
    cc

pub none_texts : (bytes : List ℕ) → texts_at 0 bytes ≡ []
unfolding row_at
none_texts bytes = refl

-- ---- places

pub no_places : (end : ℕ) (bytes : List ℕ) → places_at end 0 bytes ≡ []
unfolding places_at
no_places end bytes = refl

pub first_place : (end count n : ℕ) (bytes : List ℕ) (x : Op × List ℕ) → count ≡ suc n → at operator bytes ≡ Some x → places_at end count bytes ≡ (end - length bytes) ∷ places_at end n x.1
unfolding places_at
first_place end count n bytes x more is = ap (λ (k : ℕ). places_at end k bytes) more ∙ ap (λ (o : Option (Op × List ℕ)). (end - length bytes) ∷ behind_first (λ rest. places_at end n rest) o) is

-- what is left behind an operator is shorter
pub shorter : (bytes : List ℕ) (x : Op × List ℕ) → at operator bytes ≡ Some x → length x.1 ≤ length bytes
shorter bytes x is =
    let t = (exact operator).takes bytes x is in
    let long : length bytes ≡ length t.0 + length x.1 = ap length t.1.0 ∙ length-append t.0 x.1 in
    omega arith
