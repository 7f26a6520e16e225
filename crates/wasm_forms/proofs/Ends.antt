-- The last byte of a number.
use Rattle.std.proofs.Common.{◌≡◌, ℕ, suc, ◌+◌, ◌-◌, ◌*◌, ◌<◌, ◌≤◌, true, false, List, [], ◌∷◌, sym, ap, ◌∙◌, arith, lt-ltb, le-ltb, ltb-true, ◌⊎◌, inl, inr, ℤ, pos, negsuc, ◌+ℤ◌, ◌-ℤ◌, ◌*ℤ◌}
use Rattle.std.proofs.lemmas.Int.{ints}
use Rattle.std.proofs.Math.Nat.{mul-le-mul_left}
use lib.Signed.{mag}
use Rattle.std.specs.Prelude.{Option, Some, None, if◌then◌else◌, nat_lt}
use Rattle.wasm_forms.specs.Reading.{◌>>=◌}
use Rattle.wasm_forms.specs.Number.{leb_at, sleb_at, number_at, integer_at, last_of, Fits, fits, last_at, IsLast, above, signed_above, unsigned_end, signed_end}
use Rattle.wasm_forms.proofs.Bind.{if_some}
use Rattle.wasm_forms.proofs.Leb.{leb-last}
use Rattle.wasm_forms.proofs.Turns.{lacks, value_room}

-- a u32 or the like behind its groups, by its last byte
abbrev small_enough : ℕ → ℕ × List ℕ → Option (ℕ × List ℕ)
small_enough top n = if nat_lt n.0 top then Some n else None

abbrev small_integer : ℕ → ℤ × List ℕ → Option (ℤ × List ℕ)
small_integer half z = if fits half z.0 then Some z else None

pub number_empty : (most top value scale : ℕ) (bytes rest : List ℕ) → leb_at most bytes ≡ unsigned_end value scale rest → last_at rest ≡ None → number_at most top bytes ≡ None
unfolding number_at
number_empty most top value scale bytes rest e h = ap (λ o. o >>= small_enough top) (e ∙ ap (λ o. o >>= above value scale) h)

number_last : (most top value scale b : ℕ) (bytes rest after : List ℕ) → leb_at most bytes ≡ unsigned_end value scale rest → last_at rest ≡ Some (b, after) → number_at most top bytes ≡ small_enough top (value + scale * b, after)
unfolding number_at
number_last most top value scale b bytes rest after e h = ap (λ o. o >>= small_enough top) (e ∙ ap (λ o. o >>= above value scale) h)

pub number_large : (most top value scale b : ℕ) (bytes rest after : List ℕ) → leb_at most bytes ≡ unsigned_end value scale rest → last_at rest ≡ Some (b, after) → top ≤ value + scale * b → number_at most top bytes ≡ None
number_large most top value scale b bytes rest after e h m = number_last most top value scale b bytes rest after e h ∙ ap (λ t. if t then Some (value + scale * b, after) else None) (le-ltb (value + scale * b) top m)

pub number_fine : (most top value scale b : ℕ) (bytes rest after : List ℕ) → leb_at most bytes ≡ unsigned_end value scale rest → last_at rest ≡ Some (b, after) → value + scale * b < top → number_at most top bytes ≡ Some (value + scale * b, after)
number_fine most top value scale b bytes rest after e h m = number_last most top value scale b bytes rest after e h ∙ ap (λ t. if t then Some (value + scale * b, after) else None) (lt-ltb (value + scale * b) top m)

-- a number of one byte
number_byte : (most top b : ℕ) (after : List ℕ) → b < 128 → b < top → number_at (suc most) top (b ∷ after) ≡ Some (b, after)
unfolding number_at
number_byte most top b after h m = ap (λ o. o >>= small_enough top) (leb-last most b after h) ∙ ap (λ t. if t then Some (b, after) else None) (lt-ltb b top m)

pub number_first : (most top b : ℕ) (bytes after : List ℕ) → last_at bytes ≡ Some (b, after) → 128 ≤ top → number_at (suc most) top bytes ≡ Some (b, after)
number_first most top b [] after h m = cc
number_first most top b (x ∷ xs) after h m =
    let p = if_some (nat_lt x 128) (x, xs) (b, after) h in
    let l : x < 128 = ltb-true x 128 p.0 in
    number_byte most top x xs l (omega arith) ∙ ap (λ (y : ℕ × List ℕ). Some y) p.1

pub integer_empty : (most half value scale : ℕ) (bytes rest : List ℕ) → sleb_at most bytes ≡ signed_end value scale rest → last_at rest ≡ None → integer_at most half bytes ≡ None
unfolding integer_at
integer_empty most half value scale bytes rest e h = ap (λ o. o >>= small_integer half) (e ∙ ap (λ o. o >>= λ b. signed_above value scale (last_of b.0, b.1)) h)

integer_last : (most half value scale b : ℕ) (z : ℤ) (bytes rest after : List ℕ) → sleb_at most bytes ≡ signed_end value scale rest → last_at rest ≡ Some (b, after) → z ≡ pos value +ℤ pos scale *ℤ last_of b → integer_at most half bytes ≡ small_integer half (z, after)
unfolding integer_at
integer_last most half value scale b z bytes rest after e h s =
    ap (λ o. o >>= small_integer half) (e ∙ ap (λ o. o >>= λ b. signed_above value scale (last_of b.0, b.1)) h) ∙ ap (λ k. small_integer half (k, after)) (sym s)

pub integer_large : (most half value scale b : ℕ) (z : ℤ) (bytes rest after : List ℕ) → sleb_at most bytes ≡ signed_end value scale rest → last_at rest ≡ Some (b, after) → z ≡ pos value +ℤ pos scale *ℤ last_of b → fits half z ≡ false → integer_at most half bytes ≡ None
integer_large most half value scale b z bytes rest after e h s m = integer_last most half value scale b z bytes rest after e h s ∙ ap (λ t. if t then Some (z, after) else None) m

pub integer_fine : (most half value scale b : ℕ) (z : ℤ) (bytes rest after : List ℕ) → sleb_at most bytes ≡ signed_end value scale rest → last_at rest ≡ Some (b, after) → z ≡ pos value +ℤ pos scale *ℤ last_of b → fits half z ≡ true → integer_at most half bytes ≡ Some (z, after)
integer_fine most half value scale b z bytes rest after e h s m = integer_last most half value scale b z bytes rest after e h s ∙ ap (λ t. if t then Some (z, after) else None) m

-- what a last byte counts
pub last_low : (b : ℕ) → b < 64 → last_of b ≡ pos b
last_low b h = ap (λ t. if t then pos b else pos b -ℤ pos 128) (lt-ltb b 64 h)

pub last_high : (b : ℕ) → 64 ≤ b → b < 128 → last_of b ≡ negsuc (128 - suc b)
last_high b l h = ap (λ t. if t then pos b else pos b -ℤ pos 128) (le-ltb b 64 l) ∙ omega (arith, ints)

pub value_low : (value scale b : ℕ) → b < 64 → pos value +ℤ pos scale *ℤ last_of b ≡ pos (value + scale * b)
value_low value scale b h = ap (λ z. pos value +ℤ pos scale *ℤ z) (last_low b h)

above_lacks : (value scale b gap : ℕ) → value < scale → scale * (b + suc gap) ≡ scale * 128 → negsuc ((scale - suc value) + scale * gap) ≡ pos (value + scale * b) -ℤ pos (scale * 128)
above_lacks value scale b gap v p = omega (arith, ints, p)

pub value_high : (value scale b : ℕ) → value < scale → 64 ≤ b → b < 128 → pos value +ℤ pos scale *ℤ last_of b ≡ pos (value + scale * b) -ℤ pos (scale * 128)
value_high value scale b v l h =
    let g : b + suc (128 - suc b) ≡ 128 = omega arith in
    let p : scale * (b + suc (128 - suc b)) ≡ scale * 128 = ap (λ k. scale * k) g in
    ap (λ z. pos value +ℤ pos scale *ℤ z) (last_high b l h) ∙ lacks value scale (128 - suc b) v ∙ above_lacks value scale b (128 - suc b) v p

shifted : (value scale b gap : ℕ) → scale * (b + gap) ≡ scale * 128 → pos (value + scale * b) -ℤ pos (scale * 128) ≡ pos value -ℤ pos (scale * gap)
shifted value scale b gap p = omega (arith, ints, p)

pub value_below : (value scale b : ℕ) → value < scale → 64 ≤ b → b < 128 → pos value +ℤ pos scale *ℤ last_of b ≡ pos value -ℤ pos (scale * (128 - b))
value_below value scale b v l h =
    let g : b + (128 - b) ≡ 128 = omega arith in
    value_high value scale b v l h ∙ shifted value scale b (128 - b) (ap (λ k. scale * k) g)

-- a last byte is one that has none behind it
pub last_stops : (bytes after : List ℕ) (b : ℕ) → last_at bytes ≡ Some (b, after) → IsLast bytes
last_stops [] after b h = tt
last_stops (x ∷ xs) after b h = ltb-true x 128 (if_some (nat_lt x 128) (x, xs) (b, after) h).0

-- the tenth byte of a number: nine groups hold 63 bits
pub nine_full : (value scale b : ℕ) → value < scale → scale ≤ 9223372036854775808 → b ≤ 1 → value + scale * b < 18446744073709551616
nine_full value scale b v s l = omega (arith, mul-le-mul_left scale l)

pub nine_above : (value scale b : ℕ) → 9223372036854775808 ≤ scale → 2 ≤ b → 18446744073709551616 ≤ value + scale * b
nine_above value scale b s l = omega (arith, mul-le-mul_left scale l)

pub nine_room : (value scale b : ℕ) → value < scale → b < 128 → scale < 9223372036854775808 → (scale ≡ 9223372036854775808) ⊎ (scale * 128 ≤ 9223372036854775808) → value + scale * b < 18446744073709551616
nine_room value scale b v l s (inl h) = absurd (omega arith)
nine_room value scale b v l s (inr h) = omega (arith, value_room value scale b v l)

least : (n half : ℕ) → (n < half → ⊥) → half ≤ n
least n half h = omega arith

-- the range of a signed type, as the conversion tests it
pub fits_mag : (half : ℕ) (z : ℤ) → mag z < half → fits half z ≡ true
fits_mag half (pos n) h = lt-ltb n half h
fits_mag half (negsuc n) h = lt-ltb n half h

pub fits_not : (half : ℕ) (z : ℤ) → (mag z < half → ⊥) → fits half z ≡ false
fits_not half (pos n) h = le-ltb n half (least n half h)
fits_not half (negsuc n) h = le-ltb n half (least n half h)

pub mag_from_fits : (half : ℕ) (z : ℤ) → Fits half z → mag z < half
mag_from_fits half (pos n) h = h
mag_from_fits half (negsuc n) h = h
