-- One more item that is written.
use Rattle.std.proofs.Common.{◌≡◌, ℕ, zero, suc, ◌+◌, ◌<◌, ◌≤◌, List, [], ◌∷◌, ◌++◌, length, get_or, take, refl, sym, ap, subst, ◌∙◌, arith, append_assoc, append-nil, length-append, ◌⊎◌, inl, inr}
use Rattle.std.proofs.lemmas.List.{take_more}
use Rattle.wasm_forms.specs.Writing.{EachFits}
use Rattle.wasm_forms.specs.Spelling.{row_bytes}

pub row_bytes-append : {X : Type 0} (spell : X → List ℕ) (xs ys : List X) → row_bytes spell (xs ++ ys) ≡ row_bytes spell xs ++ row_bytes spell ys
row_bytes-append spell [] ys = refl
row_bytes-append spell (x ∷ xs) ys = ap (λ l. spell x ++ l) (row_bytes-append spell xs ys) ∙ sym (append_assoc (spell x) (row_bytes spell xs) (row_bytes spell ys))

pub each_append : {X : Type 0} (F : X → Type 0) (xs ys : List X) → EachFits F xs → EachFits F ys → EachFits F (xs ++ ys)
each_append F [] ys h k = k
each_append F (x ∷ xs) ys h k = (h.0, each_append F xs ys h.1 k)

taken_more : {X : Type 0} (xs : List X) (i : ℕ) (x : X) → i < length xs → x ≡ get_or xs i x → take (i + 1) xs ≡ take i xs ++ x ∷ []
taken_more xs i x l e = take_more xs i x l ∙ ap (λ y. take i xs ++ y ∷ []) (sym e)

pub row_push : {X : Type 0} (spell : X → List ℕ) (xs : List X) (i : ℕ) (x : X) → i < length xs → x ≡ get_or xs i x → row_bytes spell (take i xs) ++ spell x ≡ row_bytes spell (take (i + 1) xs)
row_push spell xs i x l e = sym (ap (row_bytes spell) (taken_more xs i x l e) ∙ row_bytes-append spell (take i xs) (x ∷ []) ∙ ap (λ y. row_bytes spell (take i xs) ++ y) (append-nil (spell x)))

pub each_push : {X : Type 0} (F : X → Type 0) (xs : List X) (i : ℕ) (x : X) → i < length xs → x ≡ get_or xs i x → EachFits F (take i xs) → F x → EachFits F (take (i + 1) xs)
each_push F xs i x l e h k = subst (EachFits F) (sym (taken_more xs i x l e)) (each_append F (take i xs) (x ∷ []) h (k, tt))

pub each_at : {X : Type 0} (F : X → Type 0) (xs : List X) (i : ℕ) (x : X) → i < length xs → x ≡ get_or xs i x → EachFits F xs → F x
each_at F [] i x l e h = absurd (omega arith)
each_at F (y ∷ ys) zero x l e h = subst F (sym e) h.0
each_at F (y ∷ ys) (suc i) x l e h = each_at F ys i x (omega arith) e h.1

pub stop_room : (stop : ℕ) → (stop ≡ 64) ⊎ (stop ≡ 128) → 2 ≤ stop
stop_room stop (inl h) = omega arith
stop_room stop (inr h) = omega arith

-- the spellings so far and this one are no longer than all
pub row_within : {X : Type 0} (spell : X → List ℕ) (xs : List X) (i : ℕ) (x : X) → i < length xs → x ≡ get_or xs i x → length (row_bytes spell (take i xs)) + length (spell x) ≤ length (row_bytes spell xs)
row_within spell [] i x l e = absurd (omega arith)
row_within spell (y ∷ xs) zero x l e = omega (arith, length-append (spell y) (row_bytes spell xs), ap (λ z. length (spell z)) e)
row_within spell (y ∷ xs) (suc i) x l e = omega (arith, length-append (spell y) (row_bytes spell xs), length-append (spell y) (row_bytes spell (take i xs)), row_within spell xs i x (omega arith) e)
