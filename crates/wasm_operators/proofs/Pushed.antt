-- Arguments that are read behind others, one entry after another.
use Rattle.std.proofs.Common.{◌≡◌, ℕ, zero, suc, ◌+◌, ◌<◌, ◌≤◌, List, [], ◌∷◌, ◌++◌, map, take, length, get_or, refl, sym, ap, ap₂, ◌∙◌, append_assoc, append-nil}
use Rattle.std.specs.Prelude.{Option, Some, None, flat_map}
use Rattle.std.proofs.lemmas.List.{take_more, take_all, map-append}
use Rattle.wasm_forms.specs.Reading.{◌>>=◌}
use Rattle.wasm_forms.specs.Grammar.{Form, Made, Row, Bytes, at, row_at, behind}
use Rattle.wasm_forms.proofs.Bind.{some_same}
use Rattle.wasm_operators.specs.Pushing.{push_at}

-- ---- rows of entries

abbrev Entries : {A B : Type 0} → (B → List A) → Form B → ℕ → Form (List A)
Entries make f n = Made (flat_map make) (Row f n)

-- what stands behind the first value of a row
abbrev then_row : {B : Type 0} → Form B → ℕ → B × List ℕ → Option (List B × List ℕ)
then_row f n x = row_at (at f) n x.1 >>= λ xs. Some (x.0 ∷ xs.0, xs.1)

row_more : {A B : Type 0} (make : B → List A) (f : Form B) (n : ℕ) (done : List A) (bytes : List ℕ) (o : Option (B × List ℕ)) → at f bytes ≡ o
    → push_at done (Entries make f (suc n)) bytes ≡ (((o >>= then_row f n) >>= λ xs. Some (flat_map make xs.0, xs.1)) >>= behind done)
unfolding row_at
row_more make f n done bytes o e = ap (λ o. ((o >>= then_row f n) >>= λ xs. Some (flat_map make xs.0, xs.1)) >>= behind done) e

abbrev led : {B : Type 0} → B → List B × List ℕ → Option (List B × List ℕ)
led x xs = Some (x ∷ xs.0, xs.1)

abbrev spread : {A B : Type 0} → (B → List A) → List B × List ℕ → Option (List A × List ℕ)
spread make xs = Some (flat_map make xs.0, xs.1)

first_more : {A B : Type 0} (make : B → List A) (done : List A) (x : B) (o : Option (List B × List ℕ)) → (((o >>= led x) >>= spread make) >>= behind done) ≡ ((o >>= spread make) >>= behind (done ++ make x))
first_more make done x None = refl
first_more make done x (Some xs) = ap (λ l. Some (l, xs.1)) (sym (append_assoc done (make x) (flat_map make xs.0)))

turn_at : {A B : Type 0} (make : B → List A) (f : Form B) (n : ℕ) (done done' : List A) (bytes rest : List ℕ) (o : Option (B × List ℕ)) → at f bytes ≡ o
    → ((o >>= λ x. Some (make x.0, x.1)) >>= behind done) ≡ Some (done', rest) → push_at done (Entries make f (suc n)) bytes ≡ push_at done' (Entries make f n) rest
turn_at make f n done done' bytes rest None e h = cc
turn_at {A} make f n done done' bytes rest (Some x) e h =
    let d : done ++ make x.0 ≡ done' = ap (λ (y : List A × List ℕ). y.0) (some_same (done ++ make x.0, x.1) (done', rest) h) in
    let r : x.1 ≡ rest = ap (λ (y : List A × List ℕ). y.1) (some_same (done ++ make x.0, x.1) (done', rest) h) in
    row_more make f n done bytes (Some x) e ∙ first_more make done x.0 (row_at (at f) n x.1) ∙ ap₂ (λ l b. push_at l (Entries make f n) b) d r

pub entries_turn : {A B : Type 0} (make : B → List A) (f : Form B) (n : ℕ) (done done' : List A) (bytes rest : List ℕ) → push_at done (Made make f) bytes ≡ Some (done', rest)
    → push_at done (Entries make f (suc n)) bytes ≡ push_at done' (Entries make f n) rest
entries_turn make f n done done' bytes rest h = turn_at make f n done done' bytes rest (at f bytes) refl h

stuck_at : {A B : Type 0} (make : B → List A) (f : Form B) (n : ℕ) (done : List A) (bytes : List ℕ) (o : Option (B × List ℕ)) → at f bytes ≡ o → ((o >>= λ x. Some (make x.0, x.1)) >>= behind done) ≡ None
    → push_at done (Entries make f (suc n)) bytes ≡ None
stuck_at make f n done bytes None e h = row_more make f n done bytes None e
stuck_at make f n done bytes (Some x) e h = cc

pub entries_stuck : {A B : Type 0} (make : B → List A) (f : Form B) (n : ℕ) (done : List A) (bytes : List ℕ) → push_at done (Made make f) bytes ≡ None → push_at done (Entries make f (suc n)) bytes ≡ None
entries_stuck make f n done bytes h = stuck_at make f n done bytes (at f bytes) refl h

pub entries_full : {A B : Type 0} (make : B → List A) (f : Form B) (done : List A) (bytes : List ℕ) → push_at done (Entries make f zero) bytes ≡ Some (done, bytes)
unfolding row_at
entries_full make f done bytes = ap (λ l. Some (l, bytes)) (append-nil done)

-- ---- entries of bytes

pub mapped_more : {A : Type 0} (make : ℕ → A) (xs : List ℕ) (i : ℕ) (old now new : List A) → i < length xs → now ≡ old ++ map make (take i xs) → new ≡ now ++ make (get_or xs i 0) ∷ [] → new ≡ old ++ map make (take (i + 1) xs)
mapped_more make xs i old now new l h e =
    e ∙ ap (λ y. y ++ make (get_or xs i 0) ∷ []) h ∙ append_assoc old (map make (take i xs)) (make (get_or xs i 0) ∷ [])
    ∙ ap (λ y. old ++ y) (sym (ap (map make) (take_more xs i 0 l) ∙ map-append make (take i xs) (get_or xs i 0 ∷ [])))

pub mapped_whole : {A : Type 0} (make : ℕ → A) (xs : List ℕ) (i : ℕ) (old now : List A) → length xs ≤ i → now ≡ old ++ map make (take i xs) → old ++ map make xs ≡ now
mapped_whole make xs i old now l h = sym (h ∙ ap (λ y. old ++ map make y) (take_all i xs l))

abbrev mapped : {A : Type 0} → (ℕ → A) → List ℕ × List ℕ → Option (List A × List ℕ)
mapped make x = Some (map make x.0, x.1)

pub bytes_pushed : {A : Type 0} (make : ℕ → A) (n : ℕ) (done : List A) (bytes xs rest : List ℕ) → at (Bytes n) bytes ≡ Some (xs, rest) → push_at done (Made (map make) (Bytes n)) bytes ≡ Some (done ++ map make xs, rest)
bytes_pushed make n done bytes xs rest e = ap (λ o. (o >>= mapped make) >>= behind done) e
