-- One more value of a row.
use Rattle.std.proofs.Common.{◌≡◌, ℕ, zero, suc, List, [], ◌∷◌, ◌++◌, refl, ap, ◌∙◌, append-nil}
use Rattle.std.specs.Prelude.{Option, Some, None}
use Rattle.wasm_forms.specs.Reading.{◌>>=◌}
use Rattle.wasm_forms.specs.Grammar.{row_at, behind}
use Rattle.wasm_forms.proofs.RowTurns.{behind_more}

abbrev Reader : Type 0 → Type 0
Reader A = List ℕ → Option (A × List ℕ)

-- what a row is, by its first value
abbrev then_row : {A : Type 0} → Reader A → ℕ → A × List ℕ → Option (List A × List ℕ)
then_row f left x = row_at f left x.1 >>= λ xs. Some (x.0 ∷ xs.0, xs.1)

row_more : {A : Type 0} (f : Reader A) (left : ℕ) (bytes : List ℕ) → row_at f (suc left) bytes ≡ (f bytes >>= then_row f left)
unfolding row_at
row_more f left bytes = refl

pub row_turn : {A : Type 0} (f : Reader A) (left : ℕ) (bytes rest : List ℕ) (done : List A) (x : A) → f bytes ≡ Some (x, rest) → (row_at f (suc left) bytes >>= behind done) ≡ (row_at f left rest >>= behind (done ++ x ∷ []))
row_turn f left bytes rest done x e = ap (λ o. o >>= behind done) (row_more f left bytes ∙ ap (λ o. o >>= then_row f left) e) ∙ behind_more done x (row_at f left rest)

pub row_stuck : {A : Type 0} (f : Reader A) (left : ℕ) (bytes : List ℕ) (done : List A) → f bytes ≡ None → (row_at f (suc left) bytes >>= behind done) ≡ None
row_stuck f left bytes done e = ap (λ o. o >>= behind done) (row_more f left bytes ∙ ap (λ o. o >>= then_row f left) e)

pub row_full : {A : Type 0} (f : Reader A) (bytes : List ℕ) (done : List A) → (row_at f zero bytes >>= behind done) ≡ Some (done, bytes)
unfolding row_at
row_full f bytes done = ap (λ l. Some (l, bytes)) (append-nil done)
