-- Texts of forms by the places where they stand.
use Rattle.std.proofs.Common.{◌≡◌, ℕ, suc, Bool, true, false, ltb, ltb-true, ltb-false, ◌+◌, ◌-◌, ◌<◌, ◌≤◌, List, [], ◌∷◌, ◌++◌, length, drop, refl, sym, ap, subst, ◌∙◌, arith, inl, inr, ℤ, pos, negsuc}
use Rattle.std.proofs.lemmas.List.{length-drop, length-append, drop_at, drop-drop}
use Rattle.std.proofs.lemmas.Int.{ints}
use Rattle.wasm_forms.specs.Number.{IsUnsigned, IsSigned, Fits, last_of}
use Rattle.wasm_forms.specs.Grammar.{Form, Is, U32, Number, Integer}
use Rattle.wasm_forms.specs.Spelling.{number_bytes, integer_bytes}
use Rattle.wasm_forms.proofs.Leb.{signed_last}
use Rattle.wasm_forms.proofs.Ends.{last_low, last_high}
use Rattle.wasm_forms.proofs.Groups.{groups-last}
use Rattle.wasm_text.specs.Places.{Stands, StandsNumber, IfPlace, IsPast, IsNumberAt}
use Rattle.wasm_text.proofs.Between.{front_is, one_byte, length_between}

-- what was read in front of the bytes from a place on, by the bytes that are left
pub stands_read : {A : Type 0} (form : Form A) (bytes front after : List ℕ) (at : ℕ) (value : A) → drop at bytes ≡ front ++ after → 1 ≤ length front → Is form front value → Stands form bytes at (length bytes - length after) value
stands_read form bytes front after at value e k is =
    let n : length bytes - at ≡ length front + length after = sym (length-drop at bytes) ∙ ap length e ∙ length-append front after in
    let p : at + length front ≡ length bytes - length after = omega (arith, n, k) in
    let r : drop (length bytes - length after) bytes ≡ after = ap (λ m. drop m bytes) (sym p) ∙ sym (drop-drop (length front) at bytes) ∙ ap (drop (length front)) e ∙ drop_at front after (length front) refl in
    let f = front_is bytes front at (length bytes - length after) (omega (arith, n, k)) (omega arith) (e ∙ ap (λ m. front ++ m) (sym r)) in
    record { forward = omega (arith, p, k); within = omega arith; text = subst (λ (m : List ℕ). Is form m value) (sym f.1) is }

-- texts that are one byte
pub stands_byte : {A : Type 0} (form : Form A) (bytes : List ℕ) (at b : ℕ) (value : A) → drop at bytes ≡ b ∷ drop (at + 1) bytes → at < length bytes → Is form (b ∷ []) value → Stands form bytes at (at + 1) value
stands_byte form bytes at b value e l is = record { forward = omega arith; within = omega arith; text = subst (λ (m : List ℕ). Is form m value) (sym (one_byte bytes at b e)) is }

pub unsigned_byte : (most top b : ℕ) → 1 ≤ most → b < 128 → b < top → Is (Number most top) (b ∷ []) b
unsigned_byte most top b k h l = record { spelled = (h, refl); short = k; small = l }

fits_last_at : (half b : ℕ) → 64 ≤ half → (t : Bool) → ltb b 64 ≡ t → b < 128 → Fits half (last_of b)
fits_last_at half b k true e h = let l : b < 64 = ltb-true b 64 e in let f : Fits half (pos b) = omega arith in subst (Fits half) (sym (last_low b l)) f
fits_last_at half b k false e h = let l : 64 ≤ b = ltb-false b 64 e in let f : Fits half (negsuc (128 - suc b)) = omega arith in subst (Fits half) (sym (last_high b l h)) f

pub fits_last : (half b : ℕ) → 64 ≤ half → b < 128 → Fits half (last_of b)
fits_last half b k h = fits_last_at half b k (ltb b 64) refl h

pub signed_byte : (most half b : ℕ) → 1 ≤ most → 64 ≤ half → b < 128 → Is (Integer most half) (b ∷ []) (last_of b)
signed_byte most half b k m h = record { spelled = signed_last b h; short = k; small = fits_last half b m h }

-- a number that is small enough is one of 32 bits
pub u32_stands : (bytes : List ℕ) (at behind n : ℕ) → StandsNumber 5 bytes at behind n → n < 4294967296 → Stands U32 bytes at behind n
u32_stands bytes at behind n s l =
    record { forward = s.forward; within = s.within; text = record { spelled = s.spelled; short = omega (arith, length_between bytes at behind s.within, s.short); small = l } }

pub small_stands : (bytes : List ℕ) (at behind value : ℕ) → IsPast bytes at 5 behind → IsNumberAt bytes at value → value < 4294967296 → IfPlace behind (Stands U32 bytes at behind value)
small_stands bytes at behind value (inl e) is small = inl e
small_stands bytes at behind value (inr (n, s)) is small =
    let same : value ≡ n = is behind n s in
    inr (subst (λ (k : ℕ). Stands U32 bytes at behind k) (sym same) (u32_stands bytes at behind n s (omega (arith, same, small))))

-- ---- a number of one byte is in its one spelling

pub number_lone : (bytes : List ℕ) (n : ℕ) → length bytes ≤ 1 → IsUnsigned bytes n → number_bytes n ≡ bytes
unfolding number_bytes
number_lone [] n e h = absurd h
number_lone (b ∷ []) n e h = groups-last false 128 8 n (omega (arith, h.0, h.1)) ∙ ap (λ k. k ∷ []) h.1
number_lone (b ∷ c ∷ bs) n e h = absurd (omega (arith, e))

pub integer_lone : (bytes : List ℕ) (z : ℤ) → length bytes ≤ 1 → IsSigned bytes z → integer_bytes z ≡ bytes
unfolding integer_bytes
integer_lone [] z e h = absurd h
integer_lone (b ∷ []) z e (inl h) = ap integer_bytes h.1 ∙ groups-last false 64 8 b h.0
integer_lone (b ∷ []) z e (inr h) =
    let p : z ≡ negsuc (127 - b) = h.2 ∙ omega (arith, ints) in
    let q : 127 - (127 - b) ≡ b = omega arith in
    ap integer_bytes p ∙ groups-last true 64 8 (127 - b) (omega arith) ∙ ap (λ k. k ∷ []) q
integer_lone (b ∷ c ∷ bs) z e h = absurd (omega (arith, e))
