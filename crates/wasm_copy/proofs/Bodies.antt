-- Bodies of the same bytes.
use Rattle.std.proofs.Common.{◌≡◌, ℕ, Bool, true, false, ◌&&◌, List, [], ◌∷◌, length, map, refl, ap₂, subst, arith}
use Rattle.std.specs.Prelude.{Decides, bytes_eq}
use Rattle.std.specs.List.{list_all, zip}
use Rattle.std.proofs.lemmas.Slice.Eq.{bytes_eq-Decides}
use Rattle.wasm_frames.specs.declared.record.RawBody.{RawBody}

abbrev pub bytes_of : RawBody → List ℕ
bytes_of b = b.bytes.now

abbrev pub are_same : RawBody × RawBody → Bool
are_same p = bytes_eq (bytes_of p.0) (bytes_of p.1)

first_and_rest : (a b : List ℕ) (test rest : Bool) → bytes_eq a b ≡ test → (test && rest) ≡ true → (a ≡ b) × (rest ≡ true)
first_and_rest a b true rest e h = ((subst (λ t. Decides t (a ≡ b)) e (bytes_eq-Decides a b)).0 refl, h)
first_and_rest a b false rest e h = absurd cc

pub same_bytes : (xs ys : List RawBody) → length xs ≡ length ys → list_all are_same (zip xs ys) ≡ true → map bytes_of xs ≡ map bytes_of ys
same_bytes [] [] l h = refl
same_bytes [] (y ∷ ys) l h = absurd (omega arith)
same_bytes (x ∷ xs) [] l h = absurd (omega arith)
same_bytes (x ∷ xs) (y ∷ ys) l h =
    let both = first_and_rest (bytes_of x) (bytes_of y) (bytes_eq (bytes_of x) (bytes_of y)) (list_all are_same (zip xs ys)) refl h in
    ap₂ (λ b bs. b ∷ bs) both.0 (same_bytes xs ys (omega arith) both.1)
