-- What was there before is kept through two writings.
use Rattle.std.proofs.Common.{◌≡◌, ℕ, List, [], ◌∷◌, ◌++◌, length, take, refl, ap₂}
use Rattle.wasm_forms.specs.Writing.{Keeps}

front_kept : (old front new : List ℕ) → take (length (old ++ front)) new ≡ old ++ front → take (length old) new ≡ old
front_kept [] front new e = refl
front_kept (x ∷ xs) front [] e = cc
front_kept (x ∷ xs) front (y ∷ ys) e =
    let whole : y ∷ take (length (xs ++ front)) ys ≡ x ∷ (xs ++ front) = e in
    let head : y ≡ x = cc in
    let tail : take (length (xs ++ front)) ys ≡ xs ++ front = cc in
    ap₂ (λ (a : ℕ) (l : List ℕ). a ∷ l) head (front_kept xs front ys tail)

pub keeps_behind : (old between new front : List ℕ) → between ≡ old ++ front → Keeps between new → Keeps old new
keeps_behind old between new front e k = front_kept old front new (rw e at k)

-- the same, in the form that a search can use
pub keeps_on : (old front new : List ℕ) → take (length (old ++ front)) new ≡ old ++ front → (take (length (old ++ front)) new ≡ take (length (old ++ front)) new) × (take (length old) new ≡ old)
keeps_on old front new k = (refl, front_kept old front new k)
