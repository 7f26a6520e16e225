-- What is answered where the body of a function is appended.
use Rattle.std.specs.Prelude.{◌≡◌, ℕ, Bool, true, List, ◌++◌, Option, Result, IfOk}
use Rattle.walrus_code.specs.declared.error.IrError.{IrError}
use Rattle.walrus_functions.specs.EmittedBody.{EmitsBody, Source}

-- The body is written behind what stood there, or refused with its cause. Where it is asked for, its locals are told by their indices, and which of
-- them its operators name.
abbrev pub AppendsBody : {X : Type 0} → Source → Bool → (X → List ℕ) → (X → List Bool) → (old new : List ℕ) → Result X IrError → Type 0
AppendsBody s tells ids used old new result = (bytes places : List ℕ) × (numbers : ℕ → Option ℕ) × (order : List ℕ) × (flags : List Bool) × (EmitsBody s (λ _. bytes) (λ _. places) (λ _. numbers) (λ _. order) (λ _. flags) result
    × IfOk result (λ x. (new ≡ old ++ bytes) × (tells ≡ true → (ids x ≡ order) × (used x ≡ flags))))
