-- One item more of a row that is written, each seen by a view.
use Rattle.std.proofs.Common.{◌≡◌, ℕ, zero, suc, ◌+◌, ◌<◌, ◌≤◌, List, [], ◌∷◌, ◌++◌, length, get_or, take, map, refl, sym, ap, subst, ◌∙◌, append_assoc, append-nil, arith}
use Rattle.std.proofs.lemmas.List.{take_all, take_more}
use Rattle.std.specs.Prelude.{Err, Ok}
use Rattle.wasm_forms.specs.declared.error.WireError.{WireError}
use Rattle.wasm_forms.specs.declared.error.WireError.TheVariants.{Malformed, Memory, TooLarge}
use Rattle.walrus.specs.Forms.Spelling.{row_bytes}
use Rattle.wasm_forms.specs.Writing.{Adds, EachFits}
use Rattle.walrus_edits.proofs.TellSteps.{each_append, row_append}

taken_more : {X : Type 0} (xs : List X) (i : ℕ) (x : X) → i < length xs → x ≡ get_or xs i x → take (i + 1) xs ≡ take i xs ++ x ∷ []
taken_more xs i x l e = take_more xs i x l ∙ ap (λ y. take i xs ++ y ∷ []) (sym e)

pub row_turns : {X : Type 0} (spell : X → List ℕ) (F : X → Type 0) (xs : List X) (i : ℕ) (x : X) (old now new : List ℕ) → i < length xs → x ≡ get_or xs i x → now ≡ old ++ row_bytes spell (take i xs) → EachFits F (take i xs)
    → (new ≡ now ++ spell x) × F x → (new ≡ old ++ row_bytes spell (take (i + 1) xs)) × EachFits F (take (i + 1) xs)
row_turns spell F xs i x old now new l e written fit w =
    let more = taken_more xs i x l e in
    let row : row_bytes spell (take i xs) ++ spell x ≡ row_bytes spell (take (i + 1) xs) = sym (ap (row_bytes spell) more ∙ row_append spell (take i xs) (x ∷ []) ∙ ap (λ y. row_bytes spell (take i xs) ++ y) (append-nil (spell x))) in
    (w.0 ∙ ap (λ l. l ++ spell x) written ∙ append_assoc old (row_bytes spell (take i xs)) (spell x) ∙ ap (λ l. old ++ l) row, subst (EachFits F) (sym more) (each_append F (take i xs) (x ∷ []) fit (w.1, tt)))

row_seen : {X Y : Type 0} (spell : Y → List ℕ) (view : X → Y) (xs : List X) → row_bytes (λ x. spell (view x)) xs ≡ row_bytes spell (map view xs)
row_seen spell view [] = refl
row_seen spell view (x ∷ xs) = ap (λ l. spell (view x) ++ l) (row_seen spell view xs)

each_seen : {X Y : Type 0} (F : Y → Type 0) (view : X → Y) (xs : List X) → EachFits (λ x. F (view x)) xs → EachFits F (map view xs)
each_seen F view [] h = tt
each_seen F view (x ∷ xs) h = (h.0, each_seen F view xs h.1)

each_at : {X Y : Type 0} (F : Y → Type 0) (view : X → Y) (xs : List X) (i : ℕ) (x : X) → i < length xs → x ≡ get_or xs i x → EachFits F (map view xs) → F (view x)
each_at F view [] i x l e h = absurd (omega arith)
each_at F view (y ∷ ys) zero x l e h = subst (λ z. F (view z)) (sym e) h.0
each_at F view (y ∷ ys) (suc i) x l e h = each_at F view ys i x (omega arith) e h.1

pub row_adds : {X Y : Type 0} (spell : Y → List ℕ) (F : Y → Type 0) (view : X → Y) (xs : List X) (i : ℕ) (x : X) (e : WireError) (old between new : List ℕ) → i < length xs → x ≡ get_or xs i x
    → Adds {X = Unit {0}} (Err e) between new (spell (view x)) (F (view x)) → Adds {X = Unit {0}} (Err e) old new (row_bytes spell (map view xs)) (EachFits F (map view xs))
row_adds spell F view xs i x Malformed old between new below at w = w
row_adds spell F view xs i x (Memory m) old between new below at w = tt
row_adds spell F view xs i x TooLarge old between new below at w = λ each. w (each_at F view xs i x below at each)

pub row_ends : {X Y : Type 0} (spell : Y → List ℕ) (F : Y → Type 0) (view : X → Y) (xs : List X) (i : ℕ) (old now : List ℕ) → length xs ≤ i → now ≡ old ++ row_bytes (λ x. spell (view x)) (take i xs) → EachFits (λ x. F (view x)) (take i xs)
    → Adds {X = Unit {0}} (Ok tt) old now (row_bytes spell (map view xs)) (EachFits F (map view xs))
row_ends spell F view xs i old now past written fit =
    let all = take_all i xs past in
    (written ∙ ap (λ l. old ++ l) (ap (row_bytes (λ x. spell (view x))) all ∙ row_seen spell view xs), each_seen F view xs (subst (EachFits (λ x. F (view x))) all fit))
