-- The bytes of floats.
use Rattle.std.proofs.Common.{◌≡◌, ℕ, zero, suc, ◌+◌, ◌*◌, ◌/◌, ◌%◌, ◌<◌, ◌≤◌, List, [], ◌∷◌, length, get_or, refl, ap, ap₂, ◌∙◌, arith, inl, inr}
use Rattle.wasm_forms.specs.Number.{AreBytes, little}
use Rattle.wasm_forms.specs.Spelling.{little_bytes}
use Rattle.wasm_operators.specs.declared.operator.RawArg.TheVariants as args
use Rattle.wasm_operators.specs.declared.kind.Kind.TheVariants as kinds
use Rattle.wasm_operators.specs.Forms.{arg_form, args_form}
use Rattle.wasm_text.specs.declared.limits.Limits.{Limits}
use Rattle.wasm_text.specs.Places.{between, IfPlace}
use Rattle.wasm_text.specs.Scans.{ScansArgs}
use Rattle.wasm_text.proofs.Between.{length_between, bytes_between}
use Rattle.wasm_text.proofs.Scans.{of_one, plain_arg}

little_again : (count : ℕ) (xs : List ℕ) → length xs ≡ count → AreBytes xs → little_bytes count (little xs) ≡ xs
little_again zero [] e h = refl
little_again zero (x ∷ xs) e h = absurd (omega (arith, e))
little_again (suc count) [] e h = absurd (omega (arith, e))
little_again (suc count) (x ∷ xs) e h =
    let low : (x + 256 * little xs) % 256 ≡ x = omega (arith, h.0) in
    let high : (x + 256 * little xs) / 256 ≡ little xs = omega (arith, h.0) in
    ap₂ (λ (a : ℕ) (b : List ℕ). a ∷ b) low (ap (little_bytes count) high ∙ little_again count xs (omega (arith, e)) h.1)

once : (count : ℕ) (bytes : List ℕ) (at behind : ℕ) → ((i : ℕ) → get_or bytes i 0 < 256) → behind ≡ at + count → behind ≤ length bytes → (length (between at behind bytes) ≡ count) × (little_bytes count (little (between at behind bytes)) ≡ between at behind bytes)
once count bytes at behind small e w =
    let long : length (between at behind bytes) ≡ count = length_between bytes at behind w ∙ omega (arith, e) in
    (long, little_again count (between at behind bytes) long (bytes_between bytes at behind small))

pub f32_scans : (limits : Limits) (bytes : List ℕ) (at behind : ℕ) (old : List ℕ) → ((i : ℕ) → get_or bytes i 0 < 256) → IfPlace behind ((behind ≡ at + 4) × (behind ≤ length bytes)) → ScansArgs (args_form (kinds.F32 ∷ [])) limits bytes at old old behind
unfolding arg_form
f32_scans limits bytes at behind old small (inl e) = inl e
f32_scans limits bytes at behind old small (inr (e, w)) =
    let here = between at behind bytes in
    let o = once 4 bytes at behind small e w in
    inr (plain_arg (args_form (kinds.F32 ∷ [])) limits bytes at behind old (args.F32 (little here)) (omega (arith, e)) w
    (of_one kinds.F32 here (args.F32 (little here) ∷ []) (little here, (refl, (here, (refl, (refl, o.0)))))) refl o.1 tt)

pub f64_scans : (limits : Limits) (bytes : List ℕ) (at behind : ℕ) (old : List ℕ) → ((i : ℕ) → get_or bytes i 0 < 256) → IfPlace behind ((behind ≡ at + 8) × (behind ≤ length bytes)) → ScansArgs (args_form (kinds.F64 ∷ [])) limits bytes at old old behind
unfolding arg_form
f64_scans limits bytes at behind old small (inl e) = inl e
f64_scans limits bytes at behind old small (inr (e, w)) =
    let here = between at behind bytes in
    let o = once 8 bytes at behind small e w in
    inr (plain_arg (args_form (kinds.F64 ∷ [])) limits bytes at behind old (args.F64 (little here)) (omega (arith, e)) w
    (of_one kinds.F64 here (args.F64 (little here) ∷ []) (little here, (refl, (here, (refl, (refl, o.0)))))) refl o.1 tt)
