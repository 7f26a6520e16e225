-- An index, from its first byte on.
use Rattle.std.proofs.Common.{◌≡◌, ℕ, suc, ◌+◌, ◌-◌, ◌*◌, ◌<◌, ◌≤◌, Bool, true, false, List, ◌∷◌, ap, ◌∙◌, refl, arith, lt-ltb, le-ltb, ℤ, pos, negsuc, ◌+ℤ◌, ◌*ℤ◌}
use Rattle.std.specs.Prelude.{Option, Some, None, if◌then◌else◌}
use Rattle.wasm_forms.specs.Reading.{◌>>=◌}
use Rattle.wasm_forms.specs.Number.{sleb_at, integer_at, index_at, natural, fits, last_at, last_of, signed_above, signed_end}
use Rattle.wasm_forms.proofs.Leb.{sleb-last, sleb-more}
use Rattle.wasm_forms.proofs.Turns.{lacks}
use Rattle.wasm_forms.proofs.Ends.{value_low, last_low, last_high}

abbrev counted : ℤ × List ℕ → Option (ℕ × List ℕ)
counted z = natural z.0 >>= λ n. Some (n, z.1)

index_by : (bytes : List ℕ) (o : Option (ℤ × List ℕ)) → sleb_at 5 bytes ≡ o → index_at bytes ≡ ((o >>= λ z. if fits 4294967296 z.0 then Some z else None) >>= counted)
unfolding index_at integer_at
index_by bytes o e = ap (λ o. (o >>= λ z. if fits 4294967296 z.0 then Some z else None) >>= counted) e

index_natural : (bytes after : List ℕ) (n : ℕ) → sleb_at 5 bytes ≡ Some (pos n, after) → n < 4294967296 → index_at bytes ≡ Some (n, after)
index_natural bytes after n e h = index_by bytes (Some (pos n, after)) e ∙ ap (λ t. (if t then Some (pos n, after) else None) >>= counted) (lt-ltb n 4294967296 h)

index_above : (bytes after : List ℕ) (n : ℕ) → sleb_at 5 bytes ≡ Some (pos n, after) → 4294967296 ≤ n → index_at bytes ≡ None
index_above bytes after n e h = index_by bytes (Some (pos n, after)) e ∙ ap (λ t. (if t then Some (pos n, after) else None) >>= counted) (le-ltb n 4294967296 h)

no_natural : (k : ℕ) (after : List ℕ) (t : Bool) → ((if t then Some (negsuc k, after) else None) >>= counted) ≡ None
no_natural k after true = refl
no_natural k after false = refl

index_below : (bytes after : List ℕ) (k : ℕ) → sleb_at 5 bytes ≡ Some (negsuc k, after) → index_at bytes ≡ None
index_below bytes after k e = index_by bytes (Some (negsuc k, after)) e ∙ no_natural k after (fits 4294967296 (negsuc k))

-- one byte
pub index_lone : (b : ℕ) (after : List ℕ) → b < 64 → index_at (b ∷ after) ≡ Some (b, after)
index_lone b after h = index_natural (b ∷ after) after b (sleb-last 4 b after (omega arith) ∙ ap (λ z. Some (z, after)) (last_low b h)) (omega arith)

pub index_minus : (b : ℕ) (after : List ℕ) → 64 ≤ b → b < 128 → index_at (b ∷ after) ≡ None
index_minus b after l h = index_below (b ∷ after) after (128 - suc b) (sleb-last 4 b after h ∙ ap (λ z. Some (z, after)) (last_high b l h))

-- a byte that says that more follow, and the groups behind it
abbrev end_of : ℕ → ℕ → ℕ × List ℕ → Option (ℤ × List ℕ)
end_of value scale b = signed_above value scale (last_of b.0, b.1)

abbrev led : ℕ → ℤ × List ℕ → Option (ℤ × List ℕ)
led b high = Some (pos (b - 128) +ℤ pos 128 *ℤ high.0, high.1)

led_by : (b value scale : ℕ) (bytes rest : List ℕ) (o : Option (ℕ × List ℕ)) → 128 ≤ b → sleb_at 4 bytes ≡ signed_end value scale rest → last_at rest ≡ o → sleb_at 5 (b ∷ bytes) ≡ ((o >>= end_of value scale) >>= led b)
led_by b value scale bytes rest o h e l = sleb-more 4 b bytes h ∙ ap (λ o. o >>= led b) (e ∙ ap (λ o. o >>= end_of value scale) l)

pub index_empty : (b value scale : ℕ) (bytes rest : List ℕ) → 128 ≤ b → sleb_at 4 bytes ≡ signed_end value scale rest → last_at rest ≡ None → index_at (b ∷ bytes) ≡ None
index_empty b value scale bytes rest h e l = index_by (b ∷ bytes) None (led_by b value scale bytes rest None h e l)

led_low : (b value scale last : ℕ) (bytes rest after : List ℕ) → 128 ≤ b → sleb_at 4 bytes ≡ signed_end value scale rest → last_at rest ≡ Some (last, after) → last < 64
    → sleb_at 5 (b ∷ bytes) ≡ Some (pos ((b - 128) + 128 * (value + scale * last)), after)
led_low b value scale last bytes rest after h e l s = led_by b value scale bytes rest (Some (last, after)) h e l ∙ ap (λ z. led b (z, after)) (value_low value scale last s)

pub index_fine : (b value scale last : ℕ) (bytes rest after : List ℕ) → 128 ≤ b → sleb_at 4 bytes ≡ signed_end value scale rest → last_at rest ≡ Some (last, after) → last < 64
    → (b - 128) + 128 * (value + scale * last) < 4294967296 → index_at (b ∷ bytes) ≡ Some ((b - 128) + 128 * (value + scale * last), after)
index_fine b value scale last bytes rest after h e l s m = index_natural (b ∷ bytes) after ((b - 128) + 128 * (value + scale * last)) (led_low b value scale last bytes rest after h e l s) m

pub index_large : (b value scale last : ℕ) (bytes rest after : List ℕ) → 128 ≤ b → sleb_at 4 bytes ≡ signed_end value scale rest → last_at rest ≡ Some (last, after) → last < 64
    → 4294967296 ≤ (b - 128) + 128 * (value + scale * last) → index_at (b ∷ bytes) ≡ None
index_large b value scale last bytes rest after h e l s m = index_above (b ∷ bytes) after ((b - 128) + 128 * (value + scale * last)) (led_low b value scale last bytes rest after h e l s) m

pub index_negative : (b value scale last : ℕ) (bytes rest after : List ℕ) → 128 ≤ b → b < 256 → value < scale → sleb_at 4 bytes ≡ signed_end value scale rest → last_at rest ≡ Some (last, after) → 64 ≤ last → last < 128
    → index_at (b ∷ bytes) ≡ None
index_negative b value scale last bytes rest after h u v e l s t =
    let gap = 128 - suc last in
    let k = (scale - suc value) + scale * gap in
    let r : b - 128 < 128 = omega arith in
    let p = ap (λ z. pos value +ℤ pos scale *ℤ z) (last_high last s t) ∙ lacks value scale gap v in
    let q = ap (λ z. pos (b - 128) +ℤ pos 128 *ℤ z) p ∙ lacks (b - 128) 128 k r in
    index_below (b ∷ bytes) after ((128 - suc (b - 128)) + 128 * k) (led_by b value scale bytes rest (Some (last, after)) h e l ∙ ap (λ z. Some (z, after)) q)
