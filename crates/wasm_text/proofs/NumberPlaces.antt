-- Numbers by the places where they stand.
use Rattle.std.proofs.Common.{◌≡◌, ℕ, suc, ◌+◌, ◌-◌, ◌*◌, ◌<◌, ◌≤◌, List, [], ◌∷◌, length, drop, sym, ap, subst, ◌∙◌, arith}
use Rattle.std.specs.Prelude.{Some, None}
use Rattle.wasm_forms.specs.Reading.{◌>>=◌}
use Rattle.wasm_forms.specs.Number.{IsUnsigned, leb_at, above}
use Rattle.wasm_forms.proofs.Bind.{some_same, some_not_none}
use Rattle.wasm_forms.proofs.Leb.{leb_takes, leb_again, leb-last, leb-none}
use Rattle.wasm_forms.proofs.Turns.{unsigned_turn, unsigned_start, leb_at-zero as leb_zero}
use Rattle.wasm_text.specs.Places.{between, StandsNumber, IsNumberAt}
use Rattle.wasm_text.proofs.Between.{cut, front_is, length_between}

has_bytes : (bytes : List ℕ) (n : ℕ) → IsUnsigned bytes n → 1 ≤ length bytes
has_bytes [] n h = absurd h
has_bytes (b ∷ bs) n h = omega arith

-- what is read from a place on, with the rest from another place on
pub stands_from : (most : ℕ) (bytes : List ℕ) (at behind n : ℕ) → at ≤ length bytes → behind ≤ length bytes → leb_at most (drop at bytes) ≡ Some (n, drop behind bytes) → StandsNumber most bytes at behind n
stands_from most bytes at behind n l w e =
    let r = leb_takes most (drop at bytes) (n, drop behind bytes) e in
    let f = front_is bytes r.0 at behind l w r.1 in
    let k = has_bytes r.0 n r.2 in
    record { forward = omega (arith, f.0); within = w; short = omega (arith, f.0, r.3); spelled = subst (λ (front : List ℕ). IsUnsigned front n) (sym f.1) r.2 }

pub read_from : (most : ℕ) (bytes : List ℕ) (at behind n : ℕ) → StandsNumber most bytes at behind n → leb_at most (drop at bytes) ≡ Some (n, drop behind bytes)
read_from most bytes at behind n s =
    ap (leb_at most) (cut bytes at behind (omega (arith, s.forward)))
    ∙ leb_again most (between at behind bytes) (drop behind bytes) n s.spelled (omega (arith, length_between bytes at behind s.within, s.short))

pub value_from : (bytes : List ℕ) (at value : ℕ) (rest : List ℕ) → leb_at 5 (drop at bytes) ≡ Some (value, rest) → IsNumberAt bytes at value
value_from bytes at value rest e behind n s = ap (λ (x : ℕ × List ℕ). x.0) (some_same (value, rest) (n, drop behind bytes) (sym e ∙ read_from 5 bytes at behind n s))

pub no_value : (bytes : List ℕ) (at value : ℕ) → leb_at 5 (drop at bytes) ≡ None → IsNumberAt bytes at value
no_value bytes at value e behind n s = absurd (some_not_none (n, drop behind bytes) (sym (read_from 5 bytes at behind n s) ∙ e))

-- ---- groups that were passed

-- what reading the rest gives, put above these groups, is what reading all gives
abbrev pub Passed : (most left : ℕ) → (all rest : List ℕ) → (value scale : ℕ) → Type 0
Passed most left all rest value scale = leb_at most all ≡ (leb_at left rest >>= above value scale)

pub passed_none : (most : ℕ) (all : List ℕ) → Passed most (most - 0) all all 0 1
passed_none most all = let e : most ≡ most - 0 = omega arith in unsigned_start (leb_at most all) ∙ ap (λ k. leb_at k all >>= above 0 1) e

pub passed_more : (most taken : ℕ) (all rest after : List ℕ) (value scale b : ℕ) → taken < most → rest ≡ b ∷ after → 128 ≤ b → b < 256 → Passed most (most - taken) all rest value scale → Passed most (most - (taken + 1)) all after (value + scale * (b - 128)) (scale * 128)
passed_more most taken all rest after value scale b l e h k p =
    let s : most - taken ≡ suc (most - (taken + 1)) = omega arith in
    let c : b ≡ 128 + (b - 128) = omega arith in
    p ∙ ap (λ n. leb_at n rest >>= above value scale) s ∙ unsigned_turn (most - (taken + 1)) value scale (b - 128) rest after (e ∙ ap (λ x. x ∷ after) c, omega arith)

pub passed_last : (most taken : ℕ) (all rest after : List ℕ) (value scale b : ℕ) → taken < most → rest ≡ b ∷ after → b < 128 → Passed most (most - taken) all rest value scale → leb_at most all ≡ Some (value + scale * b, after)
passed_last most taken all rest after value scale b l e h p =
    let s : most - taken ≡ suc (most - (taken + 1)) = omega arith in
    p ∙ ap (λ n. leb_at n rest >>= above value scale) s ∙ ap (λ r. leb_at (suc (most - (taken + 1))) r >>= above value scale) e ∙ ap (λ o. o >>= above value scale) (leb-last (most - (taken + 1)) b after h)

-- no number stands where the bytes end, or where so many groups all have more behind them
pub passed_end : (most left : ℕ) (all rest : List ℕ) (value scale : ℕ) → rest ≡ [] → Passed most left all rest value scale → leb_at most all ≡ None
passed_end most left all rest value scale e p = p ∙ ap (λ x. leb_at left x >>= above value scale) e ∙ ap (λ o. o >>= above value scale) (leb-none left)

pub passed_all : (most left : ℕ) (all rest : List ℕ) (value scale : ℕ) → left ≡ 0 → Passed most left all rest value scale → leb_at most all ≡ None
passed_all most left all rest value scale e p = p ∙ ap (λ k. leb_at k rest >>= above value scale) e ∙ ap (λ o. o >>= above value scale) (leb_zero rest)
