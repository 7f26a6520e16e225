-- Numbers of so few bytes that they fit.
use Rattle.std.proofs.Common.{◌≡◌, ℕ, suc, ◌+◌, ◌-◌, ◌*◌, ◌^◌, ◌<◌, ◌≤◌, List, [], ◌∷◌, length, get_or, refl, sym, ap, subst, arith, inl, inr, ℤ, pos, negsuc, ◌+ℤ◌, ◌*ℤ◌}
use Rattle.std.proofs.lemmas.Nat.{pow-add}
use Rattle.wasm_forms.specs.Number.{AreBytes, IsUnsigned, IsSigned, Fits, last_of}
use Rattle.wasm_forms.specs.Grammar.{U64, S32, S64}
use Rattle.wasm_forms.proofs.Leb.{signed_last}
use Rattle.wasm_forms.proofs.Turns.{lacks, power_up}
use Rattle.wasm_text.specs.declared.places.TheConstants.{NO_PLACE}
use Rattle.wasm_text.specs.Places.{between, IsPast, IsBehind}
use Rattle.wasm_text.proofs.Between.{length_between, bytes_between}
use Rattle.wasm_text.proofs.Forms.{fits_last}
use Rattle.wasm_forms.proofs.Spelled.{unsigned_bound}

-- the signed number that the bytes of an unsigned one spell
record Signs (bytes : List ℕ) : Type 0 where
  number : ℤ
  spelled : IsSigned bytes number
  bound : Fits (128 ^ length bytes) number

fits_as : (half half' : ℕ) (z : ℤ) → half ≤ half' → Fits half z → Fits half' z
fits_as half half' (pos n) l h = omega (arith, l, h)
fits_as half half' (negsuc n) l h = omega (arith, l, h)

fits_higher : (b half : ℕ) (z : ℤ) → 128 ≤ b → b < 256 → Fits half z → Fits (128 * half) (pos (b - 128) +ℤ pos 128 *ℤ z)
fits_higher b half (pos n) l k h = omega (arith, l, k, h)
fits_higher b half (negsuc n) l k h =
    let small : Fits (128 * half) (negsuc ((128 - suc (b - 128)) + 128 * n)) = omega (arith, l, k, h) in
    subst (Fits (128 * half)) (sym (lacks (b - 128) 128 n (omega (arith, l, k)))) small

signs : (bytes : List ℕ) (n : ℕ) → AreBytes bytes → IsUnsigned bytes n → Signs bytes
signs [] n a h = absurd h
signs (b ∷ []) n a h = record { number = last_of b; spelled = signed_last b h.0; bound = fits_last (128 ^ 1) b (omega arith) h.0 }
signs (b ∷ c ∷ bs) n a (more, (high, is, rest)) =
    let r = signs (c ∷ bs) high a.1 rest in
    let e : length (c ∷ bs) + 1 ≡ length (b ∷ c ∷ bs) = omega arith in
    let w : 128 * 128 ^ length (c ∷ bs) ≤ 128 ^ length (b ∷ c ∷ bs) = omega (arith, pow-add 128 (length (c ∷ bs)) 1, ap (λ k. 128 ^ k) e) in
    record {
      number = pos (b - 128) +ℤ pos 128 *ℤ r.number;
      spelled = (more, (r.number, refl, r.spelled));
      bound = fits_as (128 * 128 ^ length (c ∷ bs)) (128 ^ length (b ∷ c ∷ bs)) (pos (b - 128) +ℤ pos 128 *ℤ r.number) w (fits_higher b (128 ^ length (c ∷ bs)) r.number more a.0 r.bound);
    }

-- ---- at places

pub behind_u64 : (bytes : List ℕ) (at behind : ℕ) → ((i : ℕ) → get_or bytes i 0 < 256) → IsPast bytes at 9 behind → (behind ≡ NO_PLACE → ⊥) → IsBehind U64 bytes at behind
behind_u64 bytes at behind small (inl e) some = absurd (some e)
behind_u64 bytes at behind small (inr (n, s)) some =
    let e = length_between bytes at behind s.within in
    let b = unsigned_bound (between at behind bytes) n (bytes_between bytes at behind small) s.spelled in
    inr (n, record { forward = s.forward; within = s.within; text = record { spelled = s.spelled; short = omega (arith, e, s.short); small = omega (arith, b, power_up (length (between at behind bytes)) 9 (omega (arith, e, s.short))) } })

pub behind_s32 : (bytes : List ℕ) (at behind : ℕ) → ((i : ℕ) → get_or bytes i 0 < 256) → IsPast bytes at 4 behind → (behind ≡ NO_PLACE → ⊥) → IsBehind S32 bytes at behind
behind_s32 bytes at behind small (inl e) some = absurd (some e)
behind_s32 bytes at behind small (inr (n, s)) some =
    let e = length_between bytes at behind s.within in
    let z = signs (between at behind bytes) n (bytes_between bytes at behind small) s.spelled in
    let room : 128 ^ length (between at behind bytes) ≤ 2147483648 = omega (arith, power_up (length (between at behind bytes)) 4 (omega (arith, e, s.short))) in
    inr (z.number, record { forward = s.forward; within = s.within; text = record { spelled = z.spelled; short = omega (arith, e, s.short); small = fits_as (128 ^ length (between at behind bytes)) 2147483648 z.number room z.bound } })

pub behind_s64 : (bytes : List ℕ) (at behind : ℕ) → ((i : ℕ) → get_or bytes i 0 < 256) → IsPast bytes at 9 behind → (behind ≡ NO_PLACE → ⊥) → IsBehind S64 bytes at behind
behind_s64 bytes at behind small (inl e) some = absurd (some e)
behind_s64 bytes at behind small (inr (n, s)) some =
    let e = length_between bytes at behind s.within in
    let z = signs (between at behind bytes) n (bytes_between bytes at behind small) s.spelled in
    let room : 128 ^ length (between at behind bytes) ≤ 9223372036854775808 = omega (arith, power_up (length (between at behind bytes)) 9 (omega (arith, e, s.short))) in
    inr (z.number, record { forward = s.forward; within = s.within; text = record { spelled = z.spelled; short = omega (arith, e, s.short); small = fits_as (128 ^ length (between at behind bytes)) 9223372036854775808 z.number room z.bound } })
