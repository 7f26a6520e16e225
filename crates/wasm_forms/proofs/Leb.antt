-- Numbers: what is read in front is what is spelled.
use Rattle.std.proofs.Common.{◌≡◌, ℕ, zero, suc, ◌+◌, ◌-◌, ◌*◌, ◌<◌, ◌≤◌, Bool, true, false, List, [], ◌∷◌, ◌++◌, length, ltb, refl, sym, ap, subst, ◌∙◌, arith, lt-ltb, le-ltb, ltb-true, ltb-false, inl, inr, ℤ, pos, negsuc, ◌+ℤ◌, ◌-ℤ◌, ◌*ℤ◌}
use Rattle.std.specs.Prelude.{Some, None, if◌then◌else◌, nat_lt}
use Rattle.wasm_forms.specs.Reading.{◌>>=◌}
use Rattle.wasm_forms.specs.Number.{IsUnsigned, IsSigned, IsNumber, IsInteger, IsIndex, Fits, fits, natural, last_of, leb_at, sleb_at, number_at, integer_at, index_at}
use Rattle.wasm_forms.specs.Grammar.{IsExact}
use Rattle.wasm_forms.proofs.Bind.{some_same, bind_some, bind_at, if_some}

-- a byte from 128 on before a number
pub unsigned_more : (b : ℕ) (front : List ℕ) (high : ℕ) → 128 ≤ b → IsUnsigned front high → IsUnsigned (b ∷ front) ((b - 128) + 128 * high)
unsigned_more b [] high l h = absurd h
unsigned_more b (c ∷ cs) high l h = (l, (high, refl, h))

pub signed_more : (b : ℕ) (front : List ℕ) (high : ℤ) → 128 ≤ b → IsSigned front high → IsSigned (b ∷ front) (pos (b - 128) +ℤ pos 128 *ℤ high)
signed_more b [] high l h = absurd h
signed_more b (c ∷ cs) high l h = (l, (high, refl, h))

-- one step of reading
pub leb-last : (most b : ℕ) (rest : List ℕ) → b < 128 → leb_at (suc most) (b ∷ rest) ≡ Some (b, rest)
unfolding leb_at
leb-last most b rest h = rw (lt-ltb b 128 h) refl

pub leb-more : (most b : ℕ) (rest : List ℕ) → 128 ≤ b → leb_at (suc most) (b ∷ rest) ≡ (leb_at most rest >>= λ high. Some ((b - 128) + 128 * high.0, high.1))
unfolding leb_at
leb-more most b rest h = rw (le-ltb b 128 h) refl

pub leb-none : (most : ℕ) → leb_at most [] ≡ None
unfolding leb_at
leb-none zero = refl
leb-none (suc most) = refl

pub sleb-last : (most b : ℕ) (rest : List ℕ) → b < 128 → sleb_at (suc most) (b ∷ rest) ≡ Some (last_of b, rest)
unfolding sleb_at
sleb-last most b rest h = rw (lt-ltb b 128 h) refl

pub sleb-more : (most b : ℕ) (rest : List ℕ) → 128 ≤ b → sleb_at (suc most) (b ∷ rest) ≡ (sleb_at most rest >>= λ high. Some (pos (b - 128) +ℤ pos 128 *ℤ high.0, high.1))
unfolding sleb_at
sleb-more most b rest h = rw (le-ltb b 128 h) refl

pub sleb-none : (most : ℕ) → sleb_at most [] ≡ None
unfolding sleb_at
sleb-none zero = refl
sleb-none (suc most) = refl

abbrev Found : {A : Type 0} → (List ℕ → A → Type 0) → ℕ → List ℕ → A × List ℕ → Type 0
Found F most bytes x = (front : List ℕ) × (bytes ≡ front ++ x.1) × F front x.0 × (length front ≤ most)

leb_zero : (bytes : List ℕ) (x : ℕ × List ℕ) → leb_at zero bytes ≡ Some x → Found IsUnsigned zero bytes x
unfolding leb_at
leb_zero bytes x e = cc

sleb_zero : (bytes : List ℕ) (x : ℤ × List ℕ) → sleb_at zero bytes ≡ Some x → Found IsSigned zero bytes x
unfolding sleb_at
sleb_zero bytes x e = cc

-- a last byte of a signed number
signed_last_at : (b : ℕ) → b < 128 → (t : Bool) → ltb b 64 ≡ t → IsSigned (b ∷ []) (last_of b)
signed_last_at b l true h = inl (ltb-true b 64 h, ap (λ t. if t then pos b else pos b -ℤ pos 128) h)
signed_last_at b l false h = inr (ltb-false b 64 h, l, ap (λ t. if t then pos b else pos b -ℤ pos 128) h)

pub signed_last : (b : ℕ) → b < 128 → IsSigned (b ∷ []) (last_of b)
signed_last b l = signed_last_at b l (ltb b 64) refl

pub signed_last_back : (b : ℕ) (z : ℤ) → IsSigned (b ∷ []) z → (b < 128) × (z ≡ last_of b)
signed_last_back b z (inl h) = let low : ltb b 64 ≡ true = lt-ltb b 64 h.0 in (omega arith, h.1 ∙ sym (ap (λ t. if t then pos b else pos b -ℤ pos 128) low))
signed_last_back b z (inr h) = let high : ltb b 64 ≡ false = le-ltb b 64 h.0 in (h.1, h.2 ∙ sym (ap (λ t. if t then pos b else pos b -ℤ pos 128) high))

leb_takes_step : (most : ℕ) → ((bytes : List ℕ) (x : ℕ × List ℕ) → leb_at most bytes ≡ Some x → Found IsUnsigned most bytes x) → (b : ℕ) (rest : List ℕ) (x : ℕ × List ℕ) → leb_at (suc most) (b ∷ rest) ≡ Some x → (t : Bool) → ltb b 128 ≡ t → Found IsUnsigned (suc most) (b ∷ rest) x
leb_takes_step most more b rest x e true h =
    let l : b < 128 = ltb-true b 128 h in
    let p : (b, rest) ≡ x = some_same (b, rest) x (sym (leb-last most b rest l) ∙ e) in
    (b ∷ [], ap (λ (y : ℕ × List ℕ). b ∷ y.1) p, (l, sym (ap (λ (y : ℕ × List ℕ). y.0) p)), omega arith)
leb_takes_step most more b rest x e false h =
    let l : 128 ≤ b = ltb-false b 128 h in
    let p = bind_some (leb_at most rest) (λ high. Some ((b - 128) + 128 * high.0, high.1)) x (sym (leb-more most b rest l) ∙ e) in
    let q = some_same ((b - 128) + 128 * p.0.0, p.0.1) x p.2 in
    let r = more rest p.0 p.1 in
    let u = unsigned_more b r.0 p.0.0 l r.2 in
    (b ∷ r.0, ap (λ (y : List ℕ). b ∷ y) (r.1 ∙ ap (λ (y : ℕ × List ℕ). r.0 ++ y.1) q), subst (λ (y : ℕ × List ℕ). IsUnsigned (b ∷ r.0) y.0) q u, omega (arith, r.3))

pub leb_takes : (most : ℕ) (bytes : List ℕ) (x : ℕ × List ℕ) → leb_at most bytes ≡ Some x → Found IsUnsigned most bytes x
leb_takes zero bytes x e = leb_zero bytes x e
leb_takes (suc most) [] x e = let h = sym (leb-none (suc most)) ∙ e in cc
leb_takes (suc most) (b ∷ rest) x e = leb_takes_step most (leb_takes most) b rest x e (ltb b 128) refl

sleb_takes_step : (most : ℕ) → ((bytes : List ℕ) (x : ℤ × List ℕ) → sleb_at most bytes ≡ Some x → Found IsSigned most bytes x) → (b : ℕ) (rest : List ℕ) (x : ℤ × List ℕ) → sleb_at (suc most) (b ∷ rest) ≡ Some x → (t : Bool) → ltb b 128 ≡ t → Found IsSigned (suc most) (b ∷ rest) x
sleb_takes_step most more b rest x e true h =
    let l : b < 128 = ltb-true b 128 h in
    let p : (last_of b, rest) ≡ x = some_same (last_of b, rest) x (sym (sleb-last most b rest l) ∙ e) in
    (b ∷ [], ap (λ (y : ℤ × List ℕ). b ∷ y.1) p, subst (λ (y : ℤ × List ℕ). IsSigned (b ∷ []) y.0) p (signed_last b l), omega arith)
sleb_takes_step most more b rest x e false h =
    let l : 128 ≤ b = ltb-false b 128 h in
    let p = bind_some (sleb_at most rest) (λ high. Some (pos (b - 128) +ℤ pos 128 *ℤ high.0, high.1)) x (sym (sleb-more most b rest l) ∙ e) in
    let q = some_same (pos (b - 128) +ℤ pos 128 *ℤ p.0.0, p.0.1) x p.2 in
    let r = more rest p.0 p.1 in
    let u = signed_more b r.0 p.0.0 l r.2 in
    (b ∷ r.0, ap (λ (y : List ℕ). b ∷ y) (r.1 ∙ ap (λ (y : ℤ × List ℕ). r.0 ++ y.1) q), subst (λ (y : ℤ × List ℕ). IsSigned (b ∷ r.0) y.0) q u, omega (arith, r.3))

pub sleb_takes : (most : ℕ) (bytes : List ℕ) (x : ℤ × List ℕ) → sleb_at most bytes ≡ Some x → Found IsSigned most bytes x
sleb_takes zero bytes x e = sleb_zero bytes x e
sleb_takes (suc most) [] x e = let h = sym (sleb-none (suc most)) ∙ e in cc
sleb_takes (suc most) (b ∷ rest) x e = sleb_takes_step most (sleb_takes most) b rest x e (ltb b 128) refl

pub leb_again : (most : ℕ) (front rest : List ℕ) (n : ℕ) → IsUnsigned front n → length front ≤ most → leb_at most (front ++ rest) ≡ Some (n, rest)
leb_again most [] rest n h l = absurd h
leb_again zero (b ∷ bs) rest n h l = absurd (omega arith)
leb_again (suc most) (b ∷ []) rest n h l = leb-last most b rest h.0 ∙ ap (λ k. Some (k, rest)) (sym h.1)
leb_again (suc most) (b ∷ c ∷ bs) rest n h l =
    let short : length (c ∷ bs) ≤ most = omega arith in
    leb-more most b ((c ∷ bs) ++ rest) h.0 ∙ bind_at (leb_at most ((c ∷ bs) ++ rest)) (λ high. Some ((b - 128) + 128 * high.0, high.1)) (h.1.0, rest) (leb_again most (c ∷ bs) rest h.1.0 h.1.2 short) ∙ ap (λ k. Some (k, rest)) (sym h.1.1)

pub sleb_again : (most : ℕ) (front rest : List ℕ) (z : ℤ) → IsSigned front z → length front ≤ most → sleb_at most (front ++ rest) ≡ Some (z, rest)
sleb_again most [] rest z h l = absurd h
sleb_again zero (b ∷ bs) rest z h l = absurd (omega arith)
sleb_again (suc most) (b ∷ []) rest z h l = let p = signed_last_back b z h in sleb-last most b rest p.0 ∙ ap (λ k. Some (k, rest)) (sym p.1)
sleb_again (suc most) (b ∷ c ∷ bs) rest z h l =
    let short : length (c ∷ bs) ≤ most = omega arith in
    sleb-more most b ((c ∷ bs) ++ rest) h.0 ∙ bind_at (sleb_at most ((c ∷ bs) ++ rest)) (λ high. Some (pos (b - 128) +ℤ pos 128 *ℤ high.0, high.1)) (h.1.0, rest) (sleb_again most (c ∷ bs) rest h.1.0 h.1.2 short) ∙ ap (λ k. Some (k, rest)) (sym h.1.1)

pub number_exact : (most top : ℕ) → IsExact (IsNumber most top) (number_at most top)
unfolding number_at
number_exact most top = record {
  takes = λ bytes x e.
      let p = bind_some (leb_at most bytes) (λ n. if nat_lt n.0 top then Some n else None) x e in
      let q = if_some (nat_lt p.0.0 top) p.0 x p.2 in
      let r = leb_takes most bytes p.0 p.1 in
      let F : ℕ × List ℕ → Type 0 = λ y. (bytes ≡ r.0 ++ y.1) × IsNumber most top r.0 y.0 in
      (r.0, subst F q.1 (r.1, record { spelled = r.2; short = r.3; small = ltb-true p.0.0 top q.0 }));
  again = λ front rest n h.
      bind_at (leb_at most (front ++ rest)) (λ n. if nat_lt n.0 top then Some n else None) (n, rest) (leb_again most front rest n h.spelled h.short)
      ∙ ap (λ t. if t then Some (n, rest) else None) (lt-ltb n top h.small);
}

fits_back : (half : ℕ) (z : ℤ) → fits half z ≡ true → Fits half z
fits_back half (pos n) h = ltb-true n half h
fits_back half (negsuc n) h = ltb-true n half h

pub fits_true : (half : ℕ) (z : ℤ) → Fits half z → fits half z ≡ true
fits_true half (pos n) h = lt-ltb n half h
fits_true half (negsuc n) h = lt-ltb n half h

pub integer_exact : (most half : ℕ) → IsExact (IsInteger most half) (integer_at most half)
unfolding integer_at
integer_exact most half = record {
  takes = λ bytes x e.
      let p = bind_some (sleb_at most bytes) (λ z. if fits half z.0 then Some z else None) x e in
      let q = if_some (fits half p.0.0) p.0 x p.2 in
      let r = sleb_takes most bytes p.0 p.1 in
      let F : ℤ × List ℕ → Type 0 = λ y. (bytes ≡ r.0 ++ y.1) × IsInteger most half r.0 y.0 in
      (r.0, subst F q.1 (r.1, record { spelled = r.2; short = r.3; small = fits_back half p.0.0 q.0 }));
  again = λ front rest z h.
      bind_at (sleb_at most (front ++ rest)) (λ z. if fits half z.0 then Some z else None) (z, rest) (sleb_again most front rest z h.spelled h.short)
      ∙ ap (λ t. if t then Some (z, rest) else None) (fits_true half z h.small);
}

natural_some : (z : ℤ) (n : ℕ) → natural z ≡ Some n → z ≡ pos n
natural_some (pos k) n e = ap pos (some_same k n e)
natural_some (negsuc k) n e = cc

index_front : (b : ℕ) (bytes front rest : List ℕ) (z : ℤ) → b ∷ bytes ≡ front ++ rest → IsInteger 5 4294967296 front z → (fr : List ℕ) × (bytes ≡ fr ++ rest) × IsInteger 5 4294967296 (b ∷ fr) z
index_front b bytes [] rest z e h = absurd h.spelled
index_front b bytes (c ∷ cs) rest z e h =
    let p : c ≡ b = cc in
    let q : bytes ≡ cs ++ rest = cc in
    (cs, q, subst (λ k. IsInteger 5 4294967296 (k ∷ cs) z) p h)

pub index_exact : (b : ℕ) → IsExact (λ bytes n. IsIndex (b ∷ bytes) n) (λ bytes. index_at (b ∷ bytes))
unfolding index_at
index_exact b = record {
  takes = λ bytes x e.
      let p = bind_some (integer_at 5 4294967296 (b ∷ bytes)) (λ z. natural z.0 >>= λ n. Some (n, z.1)) x e in
      let q = bind_some (natural p.0.0) (λ n. Some (n, p.0.1)) x p.2 in
      let s = some_same (q.0, p.0.1) x q.2 in
      let r = (integer_exact 5 4294967296).takes (b ∷ bytes) p.0 p.1 in
      let t = index_front b bytes r.0 p.0.1 p.0.0 r.1.0 r.1.1 in
      let F : ℕ × List ℕ → Type 0 = λ y. (bytes ≡ t.0 ++ y.1) × IsInteger 5 4294967296 (b ∷ t.0) (pos y.0) in
      (t.0, subst F s (t.1, subst (λ z. IsInteger 5 4294967296 (b ∷ t.0) z) (natural_some p.0.0 q.0 q.1) t.2));
  again = λ front rest n h.
      bind_at (integer_at 5 4294967296 ((b ∷ front) ++ rest)) (λ z. natural z.0 >>= λ n. Some (n, z.1)) (pos n, rest) ((integer_exact 5 4294967296).again (b ∷ front) rest (pos n) h);
}
