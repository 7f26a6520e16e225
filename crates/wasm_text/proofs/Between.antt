-- Bytes from one place up to another.
use Rattle.std.proofs.Common.{◌≡◌, ℕ, zero, suc, ◌+◌, ◌-◌, ◌<◌, ◌≤◌, List, [], ◌∷◌, ◌++◌, length, take, drop, get_or, sym, ap, subst, ◌∙◌, arith}
use Rattle.std.proofs.lemmas.List.{take-append-drop, length-drop, length-take-le, take_at, drop-drop, length-append, get_or-drop}
use Rattle.std.proofs.Math.Seq.{take-add}
use Rattle.wasm_forms.specs.Number.{AreBytes}
use Rattle.wasm_text.specs.Places.{between}

-- what stands from a place on: what stands up to another one, and what stands from there on
pub cut : (bytes : List ℕ) (at behind : ℕ) → at ≤ behind → drop at bytes ≡ between at behind bytes ++ drop behind bytes
cut bytes at behind h =
    let e : at + (behind - at) ≡ behind = omega arith in
    sym (take-append-drop (behind - at) (drop at bytes)) ∙ ap (λ k. between at behind bytes ++ k) (drop-drop (behind - at) at bytes ∙ ap (λ k. drop k bytes) e)

-- what is in front of the rest
pub front_is : (bytes front : List ℕ) (at behind : ℕ) → at ≤ length bytes → behind ≤ length bytes → drop at bytes ≡ front ++ drop behind bytes → (at + length front ≡ behind) × (between at behind bytes ≡ front)
front_is bytes front at behind l w e =
    let n : length bytes - at ≡ length front + (length bytes - behind) = sym (length-drop at bytes) ∙ ap length e ∙ length-append front (drop behind bytes) ∙ ap (λ k. length front + k) (length-drop behind bytes) in
    let p : at + length front ≡ behind = omega (arith, n) in
    let q : length front ≡ behind - at = omega (arith, p) in
    (p, ap (take (behind - at)) e ∙ take_at front (drop behind bytes) (behind - at) q)

pub length_between : (bytes : List ℕ) (at behind : ℕ) → behind ≤ length bytes → length (between at behind bytes) ≡ behind - at
length_between bytes at behind w = length-take-le (behind - at) (drop at bytes) (omega (arith, length-drop at bytes))

-- one stretch behind another
pub join : (bytes : List ℕ) (at mid behind : ℕ) → at ≤ mid → mid ≤ behind → between at mid bytes ++ between mid behind bytes ≡ between at behind bytes
join bytes at mid behind h k =
    let e : at + (mid - at) ≡ mid = omega arith in
    let s : (mid - at) + (behind - mid) ≡ behind - at = omega arith in
    sym (ap (λ n. take n (drop at bytes)) (sym s) ∙ take-add (mid - at) (behind - mid) (drop at bytes) ∙ ap (λ r. between at mid bytes ++ take (behind - mid) r) (drop-drop (mid - at) at bytes ∙ ap (λ n. drop n bytes) e))

-- one byte
pub one_byte : (bytes : List ℕ) (at b : ℕ) → drop at bytes ≡ b ∷ drop (at + 1) bytes → between at (at + 1) bytes ≡ b ∷ []
one_byte bytes at b e =
    let n : at + 1 - at ≡ 1 = omega arith in
    ap (λ k. take k (drop at bytes)) n ∙ ap (take 1) e

-- each is a byte
pub bytes_of : (xs : List ℕ) → ((i : ℕ) → get_or xs i 0 < 256) → AreBytes xs
bytes_of [] h = tt
bytes_of (x ∷ xs) h = (h 0, bytes_of xs (λ i. h (suc i)))

bytes_from : (xs : List ℕ) (at : ℕ) → ((i : ℕ) → get_or xs i 0 < 256) → AreBytes (drop at xs)
bytes_from xs at h = bytes_of (drop at xs) (λ i. subst (λ (k : ℕ). k < 256) (sym (get_or-drop at xs i 0)) (h (at + i)))

pub bytes_front : (n : ℕ) (xs : List ℕ) → AreBytes xs → AreBytes (take n xs)
bytes_front zero xs h = tt
bytes_front (suc n) [] h = tt
bytes_front (suc n) (x ∷ xs) h = (h.0, bytes_front n xs h.1)

pub bytes_between : (bytes : List ℕ) (at behind : ℕ) → ((i : ℕ) → get_or bytes i 0 < 256) → AreBytes (between at behind bytes)
bytes_between bytes at behind h = bytes_front (behind - at) (drop at bytes) (bytes_from bytes at h)

-- no more than there are from one place up to the other
take_most : (n : ℕ) (xs : List ℕ) → length (take n xs) ≤ n
take_most zero xs = omega arith
take_most (suc n) [] = omega arith
take_most (suc n) (x ∷ xs) = omega (arith, take_most n xs)

pub between_most : (bytes : List ℕ) (at behind : ℕ) → length (between at behind bytes) ≤ behind - at
between_most bytes at behind = take_most (behind - at) (drop at bytes)

pub between_none : (bytes : List ℕ) (at : ℕ) → between at at bytes ≡ []
between_none bytes at = let e : at - at ≡ 0 = omega arith in ap (λ k. take k (drop at bytes)) e
