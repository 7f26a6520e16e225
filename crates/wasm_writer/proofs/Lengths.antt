-- Lengths of spellings, and what a measured part says of the whole.
use Rattle.std.proofs.Common.{◌≡◌, ℕ, zero, suc, ◌+◌, ◌*◌, ◌/◌, ◌^◌, ◌<◌, ◌≤◌, Bool, List, [], ◌∷◌, length, get_or, take, take_all, refl, sym, ap, ◌∙◌, arith}
use Rattle.std.proofs.lemmas.List.{length-append}
use Rattle.std.specs.Prelude.{Err}
use Rattle.wasm_forms.specs.declared.error.WireError.{WireError}
use Rattle.wasm_forms.specs.declared.error.WireError.TheVariants.{Malformed, Memory, TooLarge}
use Rattle.wasm_forms.specs.Spelling.{groups, row_bytes}
use Rattle.wasm_forms.proofs.Groups.{groups-last, groups-more, partway_next as fewer}
use Rattle.wasm_forms.proofs.Items.{row_push, each_at}
use Rattle.wasm_forms.specs.Writing.{EachFits}
use Rattle.wasm_writer.specs.Measures.{Measures, Sums}
use Rattle.wasm_forms.proofs.RowTurns.{default_any}

-- ---- the groups of a number

-- these groups are counted, one of them for what is left, and the others of what is left follow
pub record Counted (stop number len left : ℕ) : Type 0 where
  pub most : ℕ
  pub room : len + most ≡ 10
  pub counted : (below : Bool) → length (groups below stop 9 number) + 1 ≡ len + length (groups below stop most left)
  pub small : left < 2 * 128 ^ most

pub counted_start : (stop number : ℕ) → number < 18446744073709551616 → Counted stop number 1 number
counted_start stop number h = record { most = 9; room = refl; counted = λ below. omega arith; small = omega arith }

counted_at : (stop number len left most : ℕ) → 2 ≤ stop → stop ≤ left → len + most ≡ 10 → ((below : Bool) → length (groups below stop 9 number) + 1 ≡ len + length (groups below stop most left)) → left < 2 * 128 ^ most
    → Counted stop number (len + 1) (left / 128)
counted_at stop number len left zero p l r g s = absurd (omega arith)
counted_at stop number len left (suc most) p l r g s = record {
  most = most;
  room = omega arith;
  counted = λ below. omega (arith, g below, ap length (groups-more below stop most left l));
  small = fewer most left s;
}

pub counted_turn : (stop number len left : ℕ) → 2 ≤ stop → stop ≤ left → Counted stop number len left → Counted stop number (len + 1) (left / 128)
counted_turn stop number len left p l c = counted_at stop number len left c.most p l c.room c.counted c.small

last_one : (below : Bool) (stop most n : ℕ) → n < stop → length (groups below stop most n) ≡ 1
unfolding groups
last_one below stop zero n h = refl
last_one below stop (suc most) n h = ap length (groups-last below stop most n h)

pub counted_end : (stop number len left : ℕ) → left < stop → Counted stop number len left → (below : Bool) → len ≡ length (groups below stop 9 number)
counted_end stop number len left h c below = omega (arith, c.counted below, last_one below stop c.most left h)

-- ---- rows

row_step : {X : Type 0} (spell : X → List ℕ) (xs : List X) (i : ℕ) (x : X) → i < length xs → x ≡ get_or xs i x → length (row_bytes spell (take (i + 1) xs)) ≡ length (row_bytes spell (take i xs)) + length (spell x)
row_step spell xs i x l e = ap length (sym (row_push spell xs i x l e)) ∙ length-append (row_bytes spell (take i xs)) (spell x)

row_within : {X : Type 0} (spell : X → List ℕ) (n : ℕ) (xs : List X) → length (row_bytes spell (take n xs)) ≤ length (row_bytes spell xs)
row_within spell zero xs = omega arith
row_within spell (suc n) [] = omega arith
row_within spell (suc n) (x ∷ xs) = omega (arith, row_within spell n xs, length-append (spell x) (row_bytes spell (take n xs)), length-append (spell x) (row_bytes spell xs))

-- one more item is counted
pub row_counted : {X : Type 0} (spell : X → List ℕ) (xs : List X) (i total n sum : ℕ) (x : X) → i < length xs → x ≡ get_or xs i x → total ≡ length (row_bytes spell (take i xs)) → n ≡ length (spell x) → sum ≡ total + n
    → sum ≡ length (row_bytes spell (take (i + 1) xs))
row_counted spell xs i total n sum x l e t m s = omega (arith, t, m, s, row_step spell xs i x l e)

-- one of the items doesn't fit, or is too long
pub row_item : {X : Type 0} (spell : X → List ℕ) (F : X → Type 0) (xs : List X) (i : ℕ) (x : X) (e : WireError) → i < length xs → x ≡ get_or xs i x → Measures (Err e) (spell x) (F x) → Measures (Err e) (row_bytes spell xs) (EachFits F xs)
row_item spell F xs i x Malformed l is w = w
row_item spell F xs i x (Memory m) l is w = w
row_item spell F xs i x TooLarge l is w = λ fits short. w (each_at F xs i x l is fits) (omega (arith, short, row_step spell xs i x l is, row_within spell (i + 1) xs))

-- the items so far and this one are too long
pub row_sum : {X : Type 0} (spell : X → List ℕ) (fits : Type 0) (xs : List X) (i total n : ℕ) (x : X) (e : WireError) → i < length xs → x ≡ get_or xs i x → total ≡ length (row_bytes spell (take i xs)) → n ≡ length (spell x)
    → Sums (Err e) (total + n) → Measures (Err e) (row_bytes spell xs) fits
row_sum spell fits xs i total n x Malformed l is t m w = w
row_sum spell fits xs i total n x (Memory a) l is t m w = w
row_sum spell fits xs i total n x TooLarge l is t m w = λ h short. absurd (omega (arith, w, t, m, short, row_step spell xs i x l is, row_within spell (i + 1) xs))

-- all items are counted
pub row_full : {X : Type 0} (spell : X → List ℕ) (xs : List X) (i total : ℕ) → length xs ≤ i → total ≡ length (row_bytes spell (take i xs)) → total ≡ length (row_bytes spell xs)
row_full spell xs i total l t = t ∙ ap (λ ys. length (row_bytes spell ys)) (take_all i xs l)

-- one of the items, of which nothing but the length is asked, is too long
pub row_long : {X : Type 0} (spell : X → List ℕ) (xs : List X) (i : ℕ) (x : X) (bytes : List ℕ) (e : WireError) → i < length xs → x ≡ get_or xs i x → bytes ≡ spell x → Measures (Err e) bytes (Unit {0}) → Measures (Err e) (row_bytes spell xs) (Unit {0})
row_long spell xs i x bytes Malformed l is s w = w
row_long spell xs i x bytes (Memory m) l is s w = w
row_long spell xs i x bytes TooLarge l is s w = λ fits short. w fits (omega (arith, short, ap length s, row_step spell xs i x l is, row_within spell (i + 1) xs))

pub row_counted_at : {X : Type 0} (spell : X → List ℕ) (xs : List X) (i total n sum : ℕ) (d : X) → i < length xs → total ≡ length (row_bytes spell (take i xs)) → n ≡ length (spell (get_or xs i d)) → sum ≡ total + n
    → sum ≡ length (row_bytes spell (take (i + 1) xs))
row_counted_at spell xs i total n sum d l t m s = row_counted spell xs i total n sum (get_or xs i d) l (default_any xs i d (get_or xs i d) l) t m s

pub row_sum_at : {X : Type 0} (spell : X → List ℕ) (fits : Type 0) (xs : List X) (i total n : ℕ) (d : X) (e : WireError) → i < length xs → total ≡ length (row_bytes spell (take i xs)) → n ≡ length (spell (get_or xs i d))
    → Sums (Err e) (total + n) → Measures (Err e) (row_bytes spell xs) fits
row_sum_at spell fits xs i total n d e l t m w = row_sum spell fits xs i total n (get_or xs i d) e l (default_any xs i d (get_or xs i d) l) t m w
