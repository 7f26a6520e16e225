-- What a reader of bytes with marks finds, and an operator that was scanned behind others.
use Rattle.std.proofs.Common.{◌≡◌, ℕ, zero, suc, ◌+◌, ◌-◌, ◌*◌, ◌<◌, ◌≤◌, List, [], ◌∷◌, ◌++◌, length, map, drop, refl, sym, ap, subst, ◌∙◌, arith, inl, inr, ℤ, pos, negsuc, ◌+ℤ◌, ◌*ℤ◌}
use Rattle.std.specs.Prelude.{nat_eq, nat_lt, ◌&&◌}
use Rattle.std.proofs.lemmas.Int.{ints}
use Rattle.wasm_forms.specs.Number.{AreBytes, IsUnsigned, IsSigned, IsIndex}
use Rattle.wasm_forms.specs.Grammar.{Is, U32, Gives, Made, IndexFrom, choose}
use Rattle.wasm_forms.specs.Types.{value_from}
use Rattle.wasm_forms.proofs.Turns.{lacks}
use Rattle.wasm_operators.specs.Operators.{Op}
use Rattle.wasm_operators.specs.Forms.{block_type, block_from}
use Rattle.wasm_operators.specs.declared.operator.RawBlock.TheVariants.{NoResult, OneResult, OfType}
use Rattle.wasm_operators.proofs.OneRead.{chosen}
use Rattle.wasm_text.specs.declared.limits.Limits.{Limits}
use Rattle.wasm_text.specs.Places.{between, Stands, IsNumberAt}
use Rattle.wasm_text.specs.Marks.{shifted, Holds}
use Rattle.wasm_text.specs.Scans.{HasOperator}
use Rattle.wasm_text.proofs.Between.{join, length_between, bytes_front}
use Rattle.wasm_text.proofs.Showing.{holds_more}

-- ---- numbers

pub number_read : (bytes : List ℕ) (at behind number value : ℕ) → Stands U32 bytes at behind number → IsNumberAt bytes at value → value ≡ number
number_read bytes at behind number value s is =
    is behind number (record { forward = s.forward; within = s.within; short = omega (arith, length_between bytes at behind s.within, s.text.short); spelled = s.text.spelled })

-- an index is spelled as an unsigned number
higher : (b : ℕ) (high : ℤ) (n : ℕ) → 128 ≤ b → b < 256 → pos n ≡ pos (b - 128) +ℤ pos 128 *ℤ high → (h : ℕ) × ((high ≡ pos h) × (n ≡ (b - 128) + 128 * h))
higher b (pos h) n l k e = (h, (refl, omega (arith, ints, e)))
higher b (negsuc h) n l k e =
    let p : pos n ≡ negsuc ((128 - suc (b - 128)) + 128 * h) = e ∙ lacks (b - 128) 128 h (omega (arith, l, k)) in
    absurd (omega (arith, ints, p))

pub index_unsigned : (bytes : List ℕ) (n : ℕ) → AreBytes bytes → IsSigned bytes (pos n) → IsUnsigned bytes n
index_unsigned [] n a h = absurd h
index_unsigned (b ∷ []) n a (inl (l, e)) = (omega (arith, l), omega (arith, ints, e))
index_unsigned (b ∷ []) n a (inr (l, h, e)) = absurd (omega (arith, ints, l, h, e))
index_unsigned (b ∷ c ∷ bs) n a (l, (high, e, more)) =
    let p = higher b high n l a.0 e in
    (l, (p.0, p.1.1, index_unsigned (c ∷ bs) p.0 a.1 (subst (λ (z : ℤ). IsSigned (c ∷ bs) z) p.1.0 more)))

-- the type of a block that is an index
indexed : (b : ℕ) (back : List ℕ) (index : ℕ) → Is (block_from b) back (OfType index) → IsIndex (b ∷ back) index
unfolding block_from
indexed b back index is = elim (chosen (nat_eq b 64) (Gives NoResult) (choose (nat_lt 64 b && nat_lt b 128) (Made OneResult (value_from b)) (Made OfType (IndexFrom b))) back (OfType index) is) as (λ _. IsIndex (b ∷ back) index) [
  | inl c ↦ let no : OfType index ≡ NoResult = c.1.1 in absurd cc
  | inr c ↦ elim (chosen (nat_lt 64 b && nat_lt b 128) (Made OneResult (value_from b)) (Made OfType (IndexFrom b)) back (OfType index) c.1) as (λ _. IsIndex (b ∷ back) index) [
    | inl d ↦ let no : OfType index ≡ OneResult d.1.0 = d.1.1.0 in absurd cc
    | inr d ↦ let same : OfType index ≡ OfType d.1.0 = d.1.1.0 in let here : d.1.0 ≡ index = cc in subst (λ (k : ℕ). IsIndex (b ∷ back) k) here d.1.1.1
  ]
]

block_index : (bytes : List ℕ) (index : ℕ) → Is block_type bytes (OfType index) → IsIndex bytes index
unfolding block_type
block_index bytes index (b, (front, (back, (e, one, is)))) = subst (λ (k : List ℕ). IsIndex k index) (sym (e ∙ ap (λ k. k ++ back) one)) (indexed b back index is)

bytes_behind : (n : ℕ) (xs : List ℕ) → AreBytes xs → AreBytes (drop n xs)
bytes_behind zero xs h = h
bytes_behind (suc n) [] h = tt
bytes_behind (suc n) (x ∷ xs) h = bytes_behind n xs h.1

pub index_read : (bytes : List ℕ) (at behind index value : ℕ) → AreBytes bytes → Stands block_type bytes at behind (OfType index) → IsNumberAt bytes at value → value ≡ index
index_read bytes at behind index value a s is =
    let i = block_index (between at behind bytes) index s.text in
    is behind index (record {
      forward = s.forward;
      within = s.within;
      short = omega (arith, length_between bytes at behind s.within, i.short);
      spelled = index_unsigned (between at behind bytes) index (bytes_front (behind - at) (drop at bytes) (bytes_behind at bytes a)) i.spelled;
    })

-- ---- an operator behind others

pub scanned_more : (limits : Limits) (bytes marks new : List ℕ) (at behind : ℕ) (texts : List Op) → Holds (between 0 at bytes) marks texts → (found : HasOperator limits bytes at behind marks new)
    → Holds (between 0 behind bytes) new (texts ++ found.text ∷ [])
scanned_more limits bytes marks new at behind texts h found =
    let there : at ≤ length bytes = omega (arith, found.forward, found.within) in
    let long : length (between 0 at bytes) ≡ at = let none : at - 0 ≡ at = omega arith in length_between bytes 0 at there ∙ none in
    let joined : between 0 at bytes ++ between at behind bytes ≡ between 0 behind bytes = join bytes 0 at behind (omega arith) (omega (arith, found.forward)) in
    let both = holds_more (between 0 at bytes) marks (between at behind bytes) found.marks texts found.text h found.holds in
    let here : Holds (between 0 at bytes ++ between at behind bytes) new (texts ++ found.text ∷ []) =
    subst (λ (ms : List ℕ). Holds (between 0 at bytes ++ between at behind bytes) ms (texts ++ found.text ∷ [])) (ap (λ (n : ℕ). marks ++ map (shifted n) found.marks) long ∙ sym found.put) both in
    subst (λ (b : List ℕ). Holds b new (texts ++ found.text ∷ [])) joined here
