-- Lists that are written entry by entry.
use Rattle.std.proofs.Common.{◌≡◌, ℕ, ◌+◌, ◌<◌, List, [], ◌∷◌, ◌++◌, length, get_or, take, map, refl, ap, ◌∙◌, append_assoc}
use Rattle.wasm_forms.specs.Spelling.{row_bytes}
use Rattle.wasm_forms.proofs.Items.{row_push}
use Rattle.wasm_forms.proofs.RowTurns.{default_any as any_default}

-- one more entry
pub row_more : {X : Type 0} (spell : X → List ℕ) (xs : List X) (i : ℕ) (d : X) (front now new : List ℕ) → i < length xs → now ≡ front ++ row_bytes spell (take i xs) → new ≡ now ++ spell (get_or xs i d) → new ≡ front ++ row_bytes spell (take (i + 1) xs)
row_more {X} spell xs i d front now new l h k =
    let x : X = get_or xs i d in
    k ∙ ap (λ y. y ++ spell x) h ∙ append_assoc front (row_bytes spell (take i xs)) (spell x) ∙ ap (λ y. front ++ y) (row_push spell xs i x l (any_default xs i d x l))

-- entries by what they hold
pub row_map : {X Y : Type 0} (spell : Y → List ℕ) (view : X → Y) (xs : List X) → row_bytes (λ x. spell (view x)) xs ≡ row_bytes spell (map view xs)
row_map spell view [] = refl
row_map spell view (x ∷ xs) = ap (λ l. spell (view x) ++ l) (row_map spell view xs)
