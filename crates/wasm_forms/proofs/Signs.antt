-- The groups of a signed number, as the code finds them.
use Rattle.std.proofs.Common.{◌≡◌, ◌<◌, true, false, sym, ap, ◌∙◌, arith, ltb-true, ℤ, pos, negsuc, ◌-ℤ◌, SFits, to_z, of_z, w32, w64}
use Rattle.std.proofs.lemmas.Int.{ints, to_z-of_z}
use lib.IntN.{nat_abs}
use lib.Signed.{lt_z}
use Rattle.wasm_forms.specs.Spelling.{groups, integer_bytes}
use Rattle.wasm_forms.proofs.Groups.{integer-groups}

pub written_low : (z : ℤ) → SFits w32 z → lt_z (to_z w32 (of_z w32 z)) (pos 0) ≡ true → groups true 64 9 (nat_abs (to_z w32 (of_z w32 (negsuc 0 -ℤ to_z w32 (of_z w32 z))))) ≡ integer_bytes z
written_low (pos n) f h = let l : n < 0 = ltb-true n 0 (ap (λ y. lt_z y (pos 0)) (sym (to_z-of_z w32 (pos n) f)) ∙ h) in absurd (omega arith)
written_low (negsuc n) f h =
    let same : to_z w32 (of_z w32 (negsuc n)) ≡ negsuc n = to_z-of_z w32 (negsuc n) f in
    let e : to_z w32 (of_z w32 (negsuc 0 -ℤ to_z w32 (of_z w32 (negsuc n)))) ≡ pos n = omega (arith, ints) in
    ap (λ k. groups true 64 9 (nat_abs k)) e ∙ (integer-groups n).1

pub written_high : (z : ℤ) → SFits w32 z → lt_z (to_z w32 (of_z w32 z)) (pos 0) ≡ false → groups false 64 9 (nat_abs (to_z w32 (of_z w32 z))) ≡ integer_bytes z
written_high (pos n) f h = ap (λ k. groups false 64 9 (nat_abs k)) (to_z-of_z w32 (pos n) f) ∙ (integer-groups n).0
written_high (negsuc n) f h = let e = ap (λ y. lt_z y (pos 0)) (sym (to_z-of_z w32 (negsuc n) f)) ∙ h in cc

-- the same in 64 bits
pub long_written_low : (z : ℤ) → SFits w64 z → lt_z (to_z w64 (of_z w64 z)) (pos 0) ≡ true → groups true 64 9 (nat_abs (to_z w64 (of_z w64 (negsuc 0 -ℤ to_z w64 (of_z w64 z))))) ≡ integer_bytes z
long_written_low (pos n) f h = let l : n < 0 = ltb-true n 0 (ap (λ y. lt_z y (pos 0)) (sym (to_z-of_z w64 (pos n) f)) ∙ h) in absurd (omega arith)
long_written_low (negsuc n) f h =
    let same : to_z w64 (of_z w64 (negsuc n)) ≡ negsuc n = to_z-of_z w64 (negsuc n) f in
    let e : to_z w64 (of_z w64 (negsuc 0 -ℤ to_z w64 (of_z w64 (negsuc n)))) ≡ pos n = omega (arith, ints) in
    ap (λ k. groups true 64 9 (nat_abs k)) e ∙ (integer-groups n).1

pub long_written_high : (z : ℤ) → SFits w64 z → lt_z (to_z w64 (of_z w64 z)) (pos 0) ≡ false → groups false 64 9 (nat_abs (to_z w64 (of_z w64 z))) ≡ integer_bytes z
long_written_high (pos n) f h = ap (λ k. groups false 64 9 (nat_abs k)) (to_z-of_z w64 (pos n) f) ∙ (integer-groups n).0
long_written_high (negsuc n) f h = let e = ap (λ y. lt_z y (pos 0)) (sym (to_z-of_z w64 (negsuc n) f)) ∙ h in cc
