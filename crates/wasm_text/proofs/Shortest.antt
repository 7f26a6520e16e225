-- Numbers that stand in their one spelling.
use Rattle.std.proofs.Common.{◌≡◌, ℕ, zero, suc, Bool, true, false, ◌+◌, ◌-◌, ◌*◌, ◌/◌, ◌%◌, ◌<◌, ◌≤◌, List, [], ◌∷◌, ◌++◌, length, drop, get_or, refl, sym, ap, ap₂, subst, ◌∙◌, arith, inl, inr, ℤ, pos, negsuc, ◌+ℤ◌, ◌*ℤ◌}
use Rattle.std.specs.Prelude.{nat_eq, not, ◌||◌}
use Rattle.std.proofs.lemmas.Bool.{eqb-false}
use Rattle.std.proofs.lemmas.Int.{ints}
use Rattle.wasm_forms.specs.Number.{AreBytes, IsUnsigned, IsSigned}
use Rattle.wasm_forms.specs.Grammar.{Number, Integer}
use Rattle.wasm_forms.specs.Spelling.{groups, number_bytes, integer_bytes}
use Rattle.wasm_forms.proofs.Groups.{groups-last, groups-more}
use Rattle.wasm_forms.proofs.Turns.{lacks}
use Rattle.wasm_text.specs.Places.{between, Stands, IsShortest, IfShortest}
use Rattle.wasm_text.proofs.Between.{join, one_byte, bytes_between, between_most}
use Rattle.wasm_text.proofs.Forms.{number_lone, integer_lone}

-- the last of some bytes is this one
abbrev EndsIn : List ℕ → ℕ → Type 0
EndsIn [] last = ⊥
EndsIn (b ∷ []) last = b ≡ last
EndsIn (b ∷ c ∷ bs) last = EndsIn (c ∷ bs) last

ends_in : (front : List ℕ) (last : ℕ) → EndsIn (front ++ last ∷ []) last
ends_in [] last = refl
ends_in (b ∷ []) last = refl
ends_in (b ∷ c ∷ bs) last = ends_in (c ∷ bs) last

-- ---- unsigned numbers

-- the groups of a number that isn't 0
record Unsigned (most : ℕ) (bytes : List ℕ) (n : ℕ) : Type 0 where
  same : groups false 128 most n ≡ bytes
  some : 1 ≤ n

one_group : (most n : ℕ) → n < 128 → groups false 128 most n ≡ n ∷ []
unfolding groups
one_group zero n h = refl
one_group (suc most) n h = groups-last false 128 most n h

unsigned_groups : (most : ℕ) (bytes : List ℕ) (last n : ℕ) → length bytes ≤ suc most → AreBytes bytes → EndsIn bytes last → 1 ≤ last → IsUnsigned bytes n → Unsigned most bytes n
unsigned_groups most [] last n l a e s h = absurd h
unsigned_groups most (b ∷ []) last n l a e s h = record { same = one_group most n (omega (arith, h.0, h.1)) ∙ ap (λ k. k ∷ []) h.1; some = omega (arith, h.1, e, s) }
unsigned_groups zero (b ∷ c ∷ bs) last n l a e s h = absurd (omega (arith, l))
unsigned_groups (suc most) (b ∷ c ∷ bs) last n l a e s (more, (high, is, rest)) =
    let r = unsigned_groups most (c ∷ bs) last high (omega (arith, l)) a.1 e s rest in
    let low : 128 + n % 128 ≡ b = omega (arith, is, more, a.0) in
    let up : n / 128 ≡ high = omega (arith, is, more, a.0) in
    record {
      same = groups-more false 128 most n (omega (arith, is, r.some)) ∙ ap₂ (λ (x : ℕ) (xs : List ℕ). x ∷ xs) low (ap (groups false 128 most) up ∙ r.same);
      some = omega (arith, is, r.some);
    }

-- ---- signed numbers

abbrev signed_spelling : ℕ → ℤ → List ℕ
signed_spelling most (pos n) = groups false 64 most n
signed_spelling most (negsuc n) = groups true 64 most n

abbrev IsFar : ℤ → Type 0
IsFar (pos n) = 1 ≤ n
IsFar (negsuc n) = 1 ≤ n

-- the groups of a number that is neither 0 nor - 1
record Signed (most : ℕ) (bytes : List ℕ) (z : ℤ) : Type 0 where
  same : signed_spelling most z ≡ bytes
  far : IsFar z

one_low : (most n : ℕ) → n < 64 → groups false 64 most n ≡ n ∷ []
unfolding groups
one_low zero n h = refl
one_low (suc most) n h = groups-last false 64 most n h

one_high : (most n : ℕ) → n < 64 → groups true 64 most n ≡ (127 - n) ∷ []
unfolding groups
one_high zero n h = refl
one_high (suc most) n h = groups-last true 64 most n h

signed_higher : (most b n : ℕ) (bytes : List ℕ) (high : ℤ) → 128 ≤ b → b < 256 → Signed most bytes high → Signed (suc most) (b ∷ bytes) (pos (b - 128) +ℤ pos 128 *ℤ high)
signed_higher most b n bytes (pos high) l k s =
    let m = (b - 128) + 128 * high in
    let low : 128 + m % 128 ≡ b = omega (arith, l, k) in
    let up : m / 128 ≡ high = omega (arith, l, k) in
    record { same = groups-more false 64 most m (omega (arith, s.far)) ∙ ap₂ (λ (x : ℕ) (xs : List ℕ). x ∷ xs) low (ap (groups false 64 most) up ∙ s.same); far = omega (arith, s.far) }
signed_higher most b n bytes (negsuc high) l k s =
    let m = (128 - suc (b - 128)) + 128 * high in
    let low : 128 + (127 - m % 128) ≡ b = omega (arith, l, k) in
    let up : m / 128 ≡ high = omega (arith, l, k) in
    let made : Signed (suc most) (b ∷ bytes) (negsuc m) = record { same = groups-more true 64 most m (omega (arith, s.far)) ∙ ap₂ (λ (x : ℕ) (xs : List ℕ). x ∷ xs) low (ap (groups true 64 most) up ∙ s.same); far = omega (arith, s.far) } in
    subst (λ (z : ℤ). Signed (suc most) (b ∷ bytes) z) (sym (lacks (b - 128) 128 high (omega (arith, l, k)))) made

signed_groups : (most : ℕ) (bytes : List ℕ) (last : ℕ) (z : ℤ) → length bytes ≤ suc most → AreBytes bytes → EndsIn bytes last → 1 ≤ last → (last ≡ 127 → ⊥) → IsSigned bytes z → Signed most bytes z
signed_groups most [] last z l a e s t h = absurd h
signed_groups most (b ∷ []) last z l a e s t (inl h) =
    let made : Signed most (b ∷ []) (pos b) = record { same = one_low most b h.0; far = omega (arith, e, s) } in
    subst (λ (k : ℤ). Signed most (b ∷ []) k) (sym h.1) made
signed_groups most (b ∷ []) last z l a e s t (inr h) =
    let p : z ≡ negsuc (127 - b) = h.2 ∙ omega (arith, ints) in
    let q : 127 - (127 - b) ≡ b = omega (arith, h.1) in
    let made : Signed most (b ∷ []) (negsuc (127 - b)) = record { same = one_high most (127 - b) (omega (arith, h.0)) ∙ ap (λ k. k ∷ []) q; far = omega (arith, e, t, h.1) } in
    subst (λ (k : ℤ). Signed most (b ∷ []) k) (sym p) made
signed_groups zero (b ∷ c ∷ bs) last z l a e s t h = absurd (omega (arith, l))
signed_groups (suc most) (b ∷ c ∷ bs) last z l a e s t (more, (high, is, rest)) =
    subst (λ (k : ℤ). Signed (suc most) (b ∷ c ∷ bs) k) (sym is) (signed_higher most b 0 (c ∷ bs) high more a.0 (signed_groups most (c ∷ bs) last high (omega (arith, l)) a.1 e s t rest))

-- ---- the same between two places

integer_is : (bytes : List ℕ) (z : ℤ) → Signed 9 bytes z → integer_bytes z ≡ bytes
unfolding integer_bytes
integer_is bytes (pos n) s = s.same
integer_is bytes (negsuc n) s = s.same

number_is : (bytes : List ℕ) (n : ℕ) → Unsigned 9 bytes n → number_bytes n ≡ bytes
unfolding number_bytes
number_is bytes n s = s.same

ended : (bytes : List ℕ) (last : ℕ) → AreBytes bytes → EndsIn bytes last → 1 ≤ last → (last ≡ 127 → ⊥) → IsShortest bytes
ended bytes last a e s t = record {
  unsigned = λ n l h. number_is bytes n (unsigned_groups 9 bytes last n (omega (arith, l)) a e s h);
  signed = λ z l h. integer_is bytes z (signed_groups 9 bytes last z (omega (arith, l)) a e s t h);
}

pub lone : (bytes : List ℕ) → length bytes ≤ 1 → IsShortest bytes
lone bytes l = record { unsigned = λ n k h. number_lone bytes n l h; signed = λ z k h. integer_lone bytes z l h }

pub lone_between : (bytes : List ℕ) (at behind : ℕ) → behind - at ≤ 1 → IsShortest (between at behind bytes)
lone_between bytes at behind l = lone (between at behind bytes) (omega (arith, between_most bytes at behind, l))

ended_between : (bytes : List ℕ) (at behind last : ℕ) → ((i : ℕ) → get_or bytes i 0 < 256) → 1 < behind - at → drop (behind - 1) bytes ≡ last ∷ drop (behind - 1 + 1) bytes
    → (last ≡ 0 → ⊥) → (last ≡ 127 → ⊥) → IsShortest (between at behind bytes)
ended_between bytes at behind last small long e s t =
    let k : behind - 1 + 1 ≡ behind = omega (arith, long) in
    let one : between (behind - 1) behind bytes ≡ last ∷ [] = ap (λ m. between (behind - 1) m bytes) (sym k) ∙ one_byte bytes (behind - 1) last e in
    let split : between at (behind - 1) bytes ++ last ∷ [] ≡ between at behind bytes = ap (λ m. between at (behind - 1) bytes ++ m) (sym one) ∙ join bytes at (behind - 1) behind (omega (arith, long)) (omega arith) in
    ended (between at behind bytes) last (bytes_between bytes at behind small) (subst (λ (m : List ℕ). EndsIn m last) split (ends_in (between at (behind - 1) bytes) last)) (omega (arith, s)) t

pub ended_if : (bytes : List ℕ) (at behind last : ℕ) → ((i : ℕ) → get_or bytes i 0 < 256) → 1 < behind - at → drop (behind - 1) bytes ≡ last ∷ drop (behind - 1 + 1) bytes
    → (s t : Bool) → nat_eq last 0 ≡ s → nat_eq last 127 ≡ t → IfShortest (between at behind bytes) (not (s || t))
ended_if bytes at behind last small long e true t p q = tt
ended_if bytes at behind last small long e false true p q = tt
ended_if bytes at behind last small long e false false p q = ended_between bytes at behind last small long e (eqb-false last 0 p) (eqb-false last 127 q)

-- ---- numbers that stand there

pub number_once : (most top : ℕ) (bytes : List ℕ) (at behind n : ℕ) → most ≤ 10 → IsShortest (between at behind bytes) → Stands (Number most top) bytes at behind n → number_bytes n ≡ between at behind bytes
number_once most top bytes at behind n l h s = h.unsigned n (omega (arith, s.text.short, l)) s.text.spelled

pub integer_once : (most half : ℕ) (bytes : List ℕ) (at behind : ℕ) (z : ℤ) → most ≤ 10 → IsShortest (between at behind bytes) → Stands (Integer most half) bytes at behind z → integer_bytes z ≡ between at behind bytes
integer_once most half bytes at behind z l h s = h.signed z (omega (arith, s.text.short, l)) s.text.spelled

pub shortest_of : (bytes : List ℕ) (t : Bool) → t ≡ true → IfShortest bytes t → IsShortest bytes
shortest_of bytes true e h = h
shortest_of bytes false e h = absurd cc
