-- The declared locals of a body, counted from left to right, and their sum.
use Rattle.std.proofs.Common.{◌≡◌, ℕ, zero, suc, ◌+◌, ◌<◌, ◌≤◌, Bool, true, false, List, [], ◌∷◌, ◌++◌, map, refl, sym, ap, ◌∙◌, subst, arith, ltb-true}
use Rattle.std.specs.Prelude.{Option, Some, None, fold, sum, nat_lt, if◌then◌else◌}
use Rattle.wasm_forms.specs.declared.error.WireError.{WireError}
use Rattle.wasm_forms.specs.declared.error.WireError.TheVariants.{Malformed}
use Rattle.wasm_forms.specs.declared.types.RawVal.{RawVal}
use Rattle.wasm_forms.specs.Reading.{◌>>=◌, Refuses}
use Rattle.wasm_forms.specs.Grammar.{Is, at, row_at, U32, ◌then◌}
use Rattle.wasm_forms.specs.Types.{value_type}
use Rattle.wasm_forms.proofs.Bind.{some_same, some_not_none}
use Rattle.wasm_forms.proofs.Exact.{exact}
use Rattle.wasm_frames.specs.Record.{Body}
use Rattle.wasm_wire.specs.Locals.{declaration, add_locals, totals_at, all_totals_at}
use Rattle.wasm_wire.specs.Rules.{declarations, LocalsHold}

abbrev Locals : Type 0
Locals = ℕ × RawVal

abbrev read : List ℕ → Option (Locals × List ℕ)
read = at (U32 then value_type)

-- what these declarations come to, from a total on
abbrev pub counted : ℕ → List Locals → ℕ
counted total [] = total
counted total (x ∷ xs) = counted (add_locals total x.0) xs

-- the parts of these readings

abbrev total_shown : ℕ → List Locals × List ℕ → Option ℕ
total_shown total r = Some (counted total r.0)

abbrev behind_one : Locals → List Locals × List ℕ → Option (List Locals × List ℕ)
behind_one x xs = Some (x ∷ xs.0, xs.1)

abbrev count_shown : Locals × List ℕ → Option (ℕ × List ℕ)
count_shown x = Some (x.0.0, x.1)

abbrev then_totals : ℕ → ℕ → ℕ × List ℕ → Option ℕ
then_totals n total x = totals_at n (add_locals total x.0) x.1

abbrev then_row : ℕ → Locals × List ℕ → Option (List Locals × List ℕ)
then_row n x = row_at read n x.1 >>= behind_one x.0

counted_more : (total : ℕ) (x : Locals) (o : Option (List Locals × List ℕ)) → (o >>= total_shown (add_locals total x.0)) ≡ ((o >>= behind_one x) >>= total_shown total)
counted_more total x None = refl
counted_more total x (Some r) = refl

turn : (n total : ℕ) (o : Option (Locals × List ℕ)) → ((t : ℕ) (bytes : List ℕ) → totals_at n t bytes ≡ (row_at read n bytes >>= total_shown t))
    → ((o >>= count_shown) >>= then_totals n total) ≡ ((o >>= then_row n) >>= total_shown total)
turn n total None h = refl
turn n total (Some x) h = h (add_locals total x.0.0) x.1 ∙ counted_more total x.0 (row_at read n x.1)

row_totals : (n total : ℕ) (bytes : List ℕ) → totals_at n total bytes ≡ (row_at read n bytes >>= total_shown total)
unfolding totals_at row_at declaration
row_totals zero total bytes = refl
row_totals (suc n) total bytes = turn n total (read bytes) (λ t rest. row_totals n t rest)

abbrev row_there : ℕ × List ℕ → Option (List Locals × List ℕ)
row_there n = row_at read n.0 n.1

abbrev totals_there : ℕ × List ℕ → Option ℕ
totals_there n = totals_at n.0 0 n.1

totals_from : (o : Option (ℕ × List ℕ)) → (o >>= totals_there) ≡ ((o >>= row_there) >>= total_shown 0)
totals_from None = refl
totals_from (Some n) = row_totals n.0 0 n.1

all_totals : (bytes : List ℕ) → all_totals_at bytes ≡ (at declarations bytes >>= total_shown 0)
unfolding all_totals_at
all_totals bytes = totals_from (at U32 bytes)

-- one declaration more

pub totals_turn : (n total : ℕ) (bytes rest : List ℕ) (more : ℕ) → at declaration bytes ≡ Some (more, rest) → totals_at (suc n) total bytes ≡ totals_at n (add_locals total more) rest
unfolding totals_at
totals_turn n total bytes rest more e = ap (λ o. o >>= then_totals n total) e

pub totals_stuck : (n total : ℕ) (bytes : List ℕ) → at declaration bytes ≡ None → totals_at (suc n) total bytes ≡ None
unfolding totals_at
totals_stuck n total bytes e = ap (λ o. o >>= then_totals n total) e

pub totals_full : (total : ℕ) (bytes : List ℕ) → totals_at zero total bytes ≡ Some total
unfolding totals_at
totals_full total bytes = refl

-- ---- the sum

abbrev total_of : List Locals → ℕ
total_of xs = sum (map (λ l. l.0) xs)

sum_from : (a : ℕ) (xs : List ℕ) → fold (λ s x. s + x) a xs ≡ a + sum xs
sum_from a [] = omega arith
sum_from a (x ∷ xs) = omega (arith, sum_from (a + x) xs, sum_from (0 + x) xs)

sum_first : (x : ℕ) (xs : List ℕ) → sum (x ∷ xs) ≡ x + sum xs
sum_first x xs = omega (arith, sum_from (0 + x) xs)

add_small : (total count : ℕ) (t : Bool) → nat_lt 50_000 total ≡ t → t ≡ false → add_locals total count ≡ total + count
add_small total count t e f = ap (λ b. if b then total else total + count) (e ∙ f)

add_large : (total count : ℕ) (t : Bool) → nat_lt 50_000 total ≡ t → t ≡ true → add_locals total count ≡ total
add_large total count t e f = ap (λ b. if b then total else total + count) (e ∙ f)

-- the count is at most 50,000 exactly where the sum is

small_turn : (total : ℕ) (x : Locals) (xs : List Locals) (t : Bool) → nat_lt 50_000 total ≡ t → ((a : ℕ) → counted a xs ≤ 50_000 → a + total_of xs ≤ 50_000)
    → counted (add_locals total x.0) xs ≤ 50_000 → total + total_of (x ∷ xs) ≤ 50_000
small_turn total x xs false e ih h =
    let k : add_locals total x.0 + total_of xs ≤ 50_000 = ih (add_locals total x.0) h in
    omega (arith, k, add_small total x.0 false e refl, sum_first x.0 (map (λ l. l.0) xs))
small_turn total x xs true e ih h =
    let k : add_locals total x.0 + total_of xs ≤ 50_000 = ih (add_locals total x.0) h in
    absurd (omega (arith, k, add_large total x.0 true e refl, ltb-true 50_000 total e))

large_turn : (total : ℕ) (x : Locals) (xs : List Locals) (t : Bool) → nat_lt 50_000 total ≡ t → ((a : ℕ) → a + total_of xs ≤ 50_000 → counted a xs ≤ 50_000)
    → total + total_of (x ∷ xs) ≤ 50_000 → counted (add_locals total x.0) xs ≤ 50_000
large_turn total x xs false e ih h = ih (add_locals total x.0) (omega (arith, h, add_small total x.0 false e refl, sum_first x.0 (map (λ l. l.0) xs)))
large_turn total x xs true e ih h = absurd (omega (arith, h, ltb-true 50_000 total e))

counted_small : (total : ℕ) (xs : List Locals) → counted total xs ≤ 50_000 → total + total_of xs ≤ 50_000
counted_small total [] h = omega (arith, h)
counted_small total (x ∷ xs) h = small_turn total x xs (nat_lt 50_000 total) refl (λ a. counted_small a xs) h

counted_large : (total : ℕ) (xs : List Locals) → total + total_of xs ≤ 50_000 → counted total xs ≤ 50_000
counted_large total [] h = omega (arith, h)
counted_large total (x ∷ xs) h = large_turn total x xs (nat_lt 50_000 total) refl (λ a. counted_large a xs) h

-- ---- what the count says of a body

total_there : (o : Option (List Locals × List ℕ)) (n : ℕ) → (o >>= total_shown 0) ≡ Some n → (r : List Locals × List ℕ) × (o ≡ Some r) × (counted 0 r.0 ≡ n)
total_there None n e = absurd (some_not_none n (sym e))
total_there (Some r) n e = (r, refl, some_same _ _ e)

pub too_many : (b : Body) (n : ℕ) → all_totals_at b.bytes ≡ Some n → 50_000 < n → LocalsHold b → ⊥
too_many b n e large h =
    let t = total_there (at declarations b.bytes) n (sym (all_totals b.bytes) ∙ e) in
    let f = (exact declarations).takes b.bytes t.0 t.1 in
    let few : total_of t.0.0 ≤ 50_000 = h f.0 t.0.1 t.0.0 f.1.0 f.1.1 in
    let small : counted 0 t.0.0 ≤ 50_000 = counted_large 0 t.0.0 (omega (arith, few)) in
    omega (arith, small, t.2, large)

-- what is read of declarations that stand in front
read_there : (b : Body) (front back : List ℕ) (locals : List Locals) → b.bytes ≡ front ++ back → Is declarations front locals → all_totals_at b.bytes ≡ Some (counted 0 locals)
read_there b front back locals e is =
    all_totals b.bytes ∙ ap (λ o. o >>= total_shown 0) (ap (at declarations) e ∙ (exact declarations).again front back locals is)

pub few_enough : (b : Body) (n : ℕ) → all_totals_at b.bytes ≡ Some n → n ≤ 50_000 → LocalsHold b
few_enough b n e small front back locals stands is =
    let same : counted 0 locals ≡ n = some_same _ _ (sym (read_there b front back locals stands is) ∙ e) in
    let k : 0 + total_of locals ≤ 50_000 = counted_small 0 locals (omega (arith, same, small)) in
    omega (arith, k)

none_there : (b : Body) → all_totals_at b.bytes ≡ None → LocalsHold b
none_there b e front back locals stands is = absurd (some_not_none _ (sym (read_there b front back locals stands is) ∙ e))

pub refused_there : (b : Body) (e : WireError) → e ≡ Malformed → Refuses e (all_totals_at b.bytes) → LocalsHold b
refused_there b e is h = none_there b (subst (λ (f : WireError). Refuses f (all_totals_at b.bytes)) is h)
