-- One more group in front of a number.
use Rattle.std.proofs.Common.{◌≡◌, ℕ, zero, suc, ◌+◌, ◌-◌, ◌*◌, ◌<◌, ◌≤◌, Bool, true, false, List, [], ◌∷◌, ltb, refl, sym, ap, ◌∙◌, arith, lt-ltb, ltb-true, ltb-false, ℤ, pos, negsuc, ◌+ℤ◌, ◌*ℤ◌, ◌^◌}
use Rattle.std.proofs.lemmas.Nat.{pow-add}
use Rattle.std.proofs.Math.Nat.{mul-le-mul_left}
use Rattle.std.proofs.Math.IntN.{pos-*ℤ-negsuc}
use Rattle.std.proofs.lemmas.Int.{ints}
use Rattle.std.specs.Prelude.{Option, Some, None, if◌then◌else◌}
use Rattle.wasm_forms.specs.Reading.{◌>>=◌}
use Rattle.wasm_forms.specs.Number.{Continues, IsLast, above, signed_above, unsigned_end, signed_end, last_of, leb_at, sleb_at}
use Rattle.wasm_forms.proofs.Leb.{leb-last, leb-more, leb-none, sleb-last, sleb-more, sleb-none}

-- a step that only changes the number
abbrev change : {A B : Type 0} → (A → B) → A × List ℕ → Option (B × List ℕ)
change f x = Some (f x.0, x.1)

bind_changes : {A B C : Type 0} (o : Option (A × List ℕ)) (f : A → B) (g : B → C) (h : A → C) → ((x : A) → g (f x) ≡ h x) → ((o >>= change f) >>= change g) ≡ (o >>= change h)
bind_changes None f g h same = refl
bind_changes (Some x) f g h same = ap (λ y. Some (y, x.1)) (same x.0)

moved : (value scale bits high : ℕ) → value + scale * ((128 + bits - 128) + 128 * high) ≡ (value + scale * bits) + (scale * 128) * high
moved value scale bits high = let e : 128 + bits - 128 ≡ bits = omega arith in rw e (omega arith)

pub unsigned_turn : (left value scale bits : ℕ) (bytes after : List ℕ) → Continues bytes bits after → (leb_at (suc left) bytes >>= above value scale) ≡ (leb_at left after >>= above (value + scale * bits) (scale * 128))
unsigned_turn left value scale bits bytes after h =
    ap (λ l. leb_at (suc left) l >>= above value scale) h.0 ∙ ap (λ o. o >>= above value scale) (leb-more left (128 + bits) after (omega arith))
    ∙ bind_changes (leb_at left after) (λ high. (128 + bits - 128) + 128 * high) (λ n. value + scale * n) (λ high. (value + scale * bits) + (scale * 128) * high) (moved value scale bits)

-- below zero, groups count what they lack
pub lacks : (value scale m : ℕ) → value < scale → pos value +ℤ pos scale *ℤ negsuc m ≡ negsuc ((scale - suc value) + scale * m)
lacks value scale m h = rw (pos-*ℤ-negsuc scale m) (omega (arith, ints))

lacks_same : (value scale bits gap n : ℕ) → value < scale → bits + suc gap ≡ 128 → (scale - suc value) + scale * (gap + 128 * n) ≡ (scale * 128 - suc (value + scale * bits)) + scale * 128 * n
lacks_same value scale bits gap n v g = omega (arith, ap (λ k. scale * k) g)

signed_moved : (value scale bits : ℕ) → value < scale → bits < 128 → (high : ℤ) → pos value +ℤ pos scale *ℤ (pos (128 + bits - 128) +ℤ pos 128 *ℤ high) ≡ pos (value + scale * bits) +ℤ pos (scale * 128) *ℤ high
signed_moved value scale bits v b (pos n) = ap pos (moved value scale bits n)
signed_moved value scale bits v b (negsuc n) =
    let e : 128 + bits - 128 ≡ bits = omega arith in
    let g : bits + suc (128 - suc bits) ≡ 128 = omega arith in
    let l : value + scale * bits < scale * 128 = omega (arith, ap (λ k. scale * k) g) in
    ap (λ k. pos value +ℤ pos scale *ℤ (pos k +ℤ pos 128 *ℤ negsuc n)) e ∙ ap (λ z. pos value +ℤ pos scale *ℤ z) (lacks bits 128 n b) ∙ lacks value scale ((128 - suc bits) + 128 * n) v
    ∙ ap negsuc (lacks_same value scale bits (128 - suc bits) n v g) ∙ sym (lacks (value + scale * bits) (scale * 128) n l)

pub signed_turn : (left value scale bits : ℕ) (bytes after : List ℕ) → value < scale → Continues bytes bits after → (sleb_at (suc left) bytes >>= signed_above value scale) ≡ (sleb_at left after >>= signed_above (value + scale * bits) (scale * 128))
signed_turn left value scale bits bytes after v h =
    ap (λ l. sleb_at (suc left) l >>= signed_above value scale) h.0 ∙ ap (λ o. o >>= signed_above value scale) (sleb-more left (128 + bits) after (omega arith))
    ∙ bind_changes (sleb_at left after) (λ high. pos (128 + bits - 128) +ℤ pos 128 *ℤ high) (λ z. pos value +ℤ pos scale *ℤ z) (λ high. pos (value + scale * bits) +ℤ pos (scale * 128) *ℤ high) (signed_moved value scale bits v h.1)

-- no further group
abbrev ends : ℕ → ℕ → ℕ × List ℕ → Option (ℤ × List ℕ)
ends value scale b = signed_above value scale (last_of b.0, b.1)

pub unsigned_stop : (left value scale : ℕ) (bytes : List ℕ) → IsLast bytes → (leb_at (suc left) bytes >>= above value scale) ≡ unsigned_end value scale bytes
unsigned_stop left value scale [] h = ap (λ o. o >>= above value scale) (leb-none (suc left))
unsigned_stop left value scale (b ∷ after) h = ap (λ o. o >>= above value scale) (leb-last left b after h) ∙ sym (ap (λ t. (if t then Some (b, after) else None) >>= above value scale) (lt-ltb b 128 h))

pub signed_stop : (left value scale : ℕ) (bytes : List ℕ) → IsLast bytes → (sleb_at (suc left) bytes >>= signed_above value scale) ≡ signed_end value scale bytes
signed_stop left value scale [] h = ap (λ o. o >>= signed_above value scale) (sleb-none (suc left))
signed_stop left value scale (b ∷ after) h = ap (λ o. o >>= signed_above value scale) (sleb-last left b after h) ∙ sym (ap (λ t. (if t then Some (b, after) else None) >>= ends value scale) (lt-ltb b 128 h))

-- the last byte that is allowed
pub leb_at-zero : (bytes : List ℕ) → leb_at 0 bytes ≡ None
unfolding leb_at
leb_at-zero bytes = refl

sleb_at-zero : (bytes : List ℕ) → sleb_at 0 bytes ≡ None
unfolding sleb_at
sleb_at-zero bytes = refl

unsigned_full_at : (value scale b : ℕ) (after : List ℕ) (t : Bool) → ltb b 128 ≡ t → (leb_at 1 (b ∷ after) >>= above value scale) ≡ unsigned_end value scale (b ∷ after)
unsigned_full_at value scale b after true h = unsigned_stop 0 value scale (b ∷ after) (ltb-true b 128 h)
unsigned_full_at value scale b after false h =
    ap (λ o. o >>= above value scale) (leb-more 0 b after (ltb-false b 128 h) ∙ ap (λ o. o >>= change (λ high. (b - 128) + 128 * high)) (leb_at-zero after)) ∙ sym (ap (λ t. (if t then Some (b, after) else None) >>= above value scale) h)

pub unsigned_full : (value scale : ℕ) (bytes : List ℕ) → (leb_at 1 bytes >>= above value scale) ≡ unsigned_end value scale bytes
unsigned_full value scale [] = unsigned_stop 0 value scale [] tt
unsigned_full value scale (b ∷ after) = unsigned_full_at value scale b after (ltb b 128) refl

signed_full_at : (value scale b : ℕ) (after : List ℕ) (t : Bool) → ltb b 128 ≡ t → (sleb_at 1 (b ∷ after) >>= signed_above value scale) ≡ signed_end value scale (b ∷ after)
signed_full_at value scale b after true h = signed_stop 0 value scale (b ∷ after) (ltb-true b 128 h)
signed_full_at value scale b after false h =
    ap (λ o. o >>= signed_above value scale) (sleb-more 0 b after (ltb-false b 128 h) ∙ ap (λ o. o >>= change (λ high. pos (b - 128) +ℤ pos 128 *ℤ high)) (sleb_at-zero after)) ∙ sym (ap (λ t. (if t then Some (b, after) else None) >>= ends value scale) h)

pub signed_full : (value scale : ℕ) (bytes : List ℕ) → (sleb_at 1 bytes >>= signed_above value scale) ≡ signed_end value scale bytes
signed_full value scale [] = signed_stop 0 value scale [] tt
signed_full value scale (b ∷ after) = signed_full_at value scale b after (ltb b 128) refl

-- before the first group
pub unsigned_start : (o : Option (ℕ × List ℕ)) → o ≡ (o >>= above 0 1)
unsigned_start None = refl
unsigned_start (Some x) = ap (λ n. Some (n, x.1)) (omega arith)

pub signed_start : (o : Option (ℤ × List ℕ)) → o ≡ (o >>= signed_above 0 1)
signed_start None = refl
signed_start (Some x) = ap (λ z. Some (z, x.1)) (omega (arith, ints))

-- what the next group counts
pow_one : (j : ℕ) → 1 ≤ 128 ^ j
pow_one zero = omega arith
pow_one (suc j) = let e : j + 1 ≡ suc j = omega arith in omega (arith, pow-add 128 j 1, ap (λ k. 128 ^ k) e, pow_one j)

pub power_up : (i j : ℕ) → i ≤ j → 128 ^ i ≤ 128 ^ j
power_up i j h =
    let e : i + (j - i) ≡ j = omega arith in
    omega (arith, pow-add 128 i (j - i), ap (λ k. 128 ^ k) e, mul-le-mul_left (128 ^ i) (pow_one (j - i)))

pub power_next : (scale taken : ℕ) → scale ≡ 128 ^ taken → scale * 128 ≡ 128 ^ (taken + 1)
power_next scale taken h = ap (λ k. k * 128) h ∙ sym (pow-add 128 taken 1)

pub scale_room : (scale taken most : ℕ) → scale ≡ 128 ^ taken → taken < most → most ≤ 9 → scale * 128 ≤ 9223372036854775808
scale_room scale taken most h l m = omega (arith, power_next scale taken h, power_up (taken + 1) 9 (omega arith))

pub value_room : (value scale bits : ℕ) → value < scale → bits < 128 → value + scale * bits < scale * 128
value_room value scale bits v b = omega (arith, mul-le-mul_left scale (let h : bits + 1 ≤ 128 = omega arith in h))
