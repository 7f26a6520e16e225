-- Names by the keys that lead to them.
use Rattle.std.proofs.Common.{◌≡◌, ◌≢◌, ℕ, ◌+◌, ◌-◌, ◌/◌, ◌%◌, ◌^◌, ◌<◌, ◌≤◌, ◌⊎◌, inl, inr, Bool, true, false, List, [], ◌∷◌, ◌++◌, length, get_or, take, drop, map, refl, sym, ap, ◌∙◌, subst, arith, append_assoc}
use Rattle.std.specs.Prelude.{All, IsPermutation, IsSorted}
use Rattle.std.specs.Bool.{Decides}
use Rattle.std.specs.List.{AllByRecursion, fold}
use Rattle.std.specs.Ordering.{nat_cmp}
use Rattle.std.proofs.Math.Nat.{div-mul-le_self}
use Rattle.std.proofs.Math.Seq.{get_or-append_seam}
use Rattle.std.proofs.lemmas.Bool.{cases_lt, false≢true}
use Rattle.std.proofs.lemmas.List.{get_or-map, get_or-take, get_or-drop, get_or_default, length-map, length-append, length-take, length-drop, take-map, drop-map}
use Rattle.std.proofs.lemmas.List.Elements.{All-from_recursion}
use Rattle.std.proofs.lemmas.List.Sorted.{All-permutation, IsNonDecreasingBy-from_sort, IsPermutation-map, IsPermutation-sym}
use Rattle.std.proofs.lemmas.List.Sums.{fold_more}
use Rattle.std.proofs.lemmas.Nat.{div-mul-add, le-div, mod_low}
use Rattle.wasm_wire.specs.Keys.{AllDiffer, IsKeyIn, key_of, keys_from, mixed, name_at, number_of}
use Rattle.wasm_wire.proofs.Names.{differ_moved}

-- a byte more in the number
pub mixed_more : (name bytes : List ℕ) (i number byte : ℕ) → bytes ≡ name → i < length bytes → byte ≡ get_or bytes i 0
    → number ≡ fold mixed 2_166_136_261 (take i name) → mixed number byte ≡ fold mixed 2_166_136_261 (take (i + 1) name)
mixed_more name bytes i number byte same within read so_far =
    ap (λ n. mixed n byte) so_far ∙ ap (mixed (fold mixed 2_166_136_261 (take i name))) (read ∙ ap (λ l. get_or l i 0) same)
    ∙ sym (fold_more mixed 2_166_136_261 name i 0 (subst (λ (l : List ℕ). i < length l) same within))

-- ---- what keys lead to

place_back : (name : List ℕ) (place : ℕ) → place < 2 ^ 32 → key_of name place % 2 ^ 32 ≡ place
place_back name place low = mod_low (number_of name) 32 place low

-- the name that stands behind these
stands : (all front : List (List ℕ)) (name : List ℕ) (names : List (List ℕ)) (place : ℕ) → all ≡ front ++ name ∷ names → place ≡ length front
    → place < 2 ^ 32 → name_at all (key_of name place) ≡ name
stands all front name names place is at low =
    ap (λ (k : ℕ). get_or all k []) (place_back name place low) ∙ ap (λ (l : List (List ℕ)). get_or l place []) is
    ∙ ap (λ (k : ℕ). get_or (front ++ name ∷ names) k []) at ∙ get_or-append_seam front name names []

low_place : (all front : List (List ℕ)) (name : List ℕ) (names : List (List ℕ)) (place : ℕ) → all ≡ front ++ name ∷ names → place ≡ length front
    → place < length all
low_place all front name names place is at =
    let long : length all ≡ length front + length (name ∷ names) = ap length is ∙ length-append front (name ∷ names) in
    omega (arith, long, at)

behind : (all front : List (List ℕ)) (name : List ℕ) (names : List (List ℕ)) → all ≡ front ++ name ∷ names → all ≡ (front ++ name ∷ []) ++ names
behind all front name names is = is ∙ sym (append_assoc front (name ∷ []) names)

one_on : (front : List (List ℕ)) (name : List ℕ) (place : ℕ) → place ≡ length front → place + 1 ≡ length (front ++ name ∷ [])
one_on front name place at = ap (λ (k : ℕ). k + 1) at ∙ sym (length-append front (name ∷ []))

key_holds : (all front : List (List ℕ)) (name : List ℕ) (names : List (List ℕ)) (place : ℕ) → all ≡ front ++ name ∷ names → place ≡ length front
    → length all ≤ 2 ^ 32 → IsKeyIn all (key_of name place)
key_holds all front name names place is at room =
    let within = low_place all front name names place is at in
    let low : place < 2 ^ 32 = omega (arith, within, room) in
    record {
      place = subst (λ (k : ℕ). k < length all) (sym (place_back name place low)) within;
      number = ap number_of (stands all front name names place is at low) ∙ sym (div-mul-add (number_of name) (2 ^ 32) place low);
    }

all_hold : (all front names : List (List ℕ)) (place : ℕ) → all ≡ front ++ names → place ≡ length front → length all ≤ 2 ^ 32
    → AllByRecursion (IsKeyIn all) (keys_from place names)
all_hold all front [] place is at room = tt
all_hold all front (name ∷ names) place is at room = (
  key_holds all front name names place is at room,
  all_hold all (front ++ name ∷ []) names (place + 1) (behind all front name names is) (one_on front name place at) room,
)

all_back : (all front names : List (List ℕ)) (place : ℕ) → all ≡ front ++ names → place ≡ length front → length all ≤ 2 ^ 32
    → map (name_at all) (keys_from place names) ≡ names
all_back all front [] place is at room = refl
all_back all front (name ∷ names) place is at room =
    let low : place < 2 ^ 32 = let within = low_place all front name names place is at in omega (arith, within, room) in
    ap (λ (n : List ℕ). n ∷ map (name_at all) (keys_from (place + 1) names)) (stands all front name names place is at low)
    ∙ ap (λ (l : List (List ℕ)). name ∷ l)
    (all_back all (front ++ name ∷ []) names (place + 1) (behind all front name names is) (one_on front name place at) room)

-- the keys of names in any order lead to them
pub keys_held : (names : List (List ℕ)) (keys given : List ℕ) → length names ≤ 2 ^ 32 → IsPermutation (keys_from 0 names) keys → given ≡ keys
    → All (IsKeyIn names) given
keys_held names keys given room moved same =
    let held = All-from_recursion (IsKeyIn names) (keys_from 0 names) (all_hold names [] names 0 refl refl room) in
    subst (All (IsKeyIn names)) (sym same) (All-permutation (IsKeyIn names) (keys_from 0 names) keys moved held)

-- what is told of the names that keys lead to, where these are the keys of names in any order
pub told_by_keys : (names : List (List ℕ)) (keys given : List ℕ) (answer : Bool) → length names ≤ 2 ^ 32 → IsPermutation (keys_from 0 names) keys
    → given ≡ keys → Decides answer (AllDiffer (map (name_at names) given)) → Decides answer (AllDiffer names)
told_by_keys names keys given answer room moved same decides =
    let back = all_back names [] names 0 refl refl room in
    let there : IsPermutation names (map (name_at names) given) =
    subst (λ (l : List ℕ). IsPermutation names (map (name_at names) l)) (sym same)
    (subst (λ (l : List (List ℕ)). IsPermutation l (map (name_at names) keys)) back
    (IsPermutation-map (name_at names) (keys_from 0 names) keys moved)) in (
      λ was. differ_moved (map (name_at names) given) names (IsPermutation-sym names (map (name_at names) given) there) (decides.0 was),
      λ differ. decides.1 (differ_moved names (map (name_at names) given) there differ),
    )

-- ---- run by run

-- the names of the keys in front of a place differ, and the last number of these isn't the next one
pub record DifferUpTo (names : List (List ℕ)) (keys : List ℕ) (end : ℕ) : Type 0 where
  pub within : end ≤ length keys
  pub differ : (i j : ℕ) → i < j → j < end → get_or (map (name_at names) keys) i [] ≢ get_or (map (name_at names) keys) j []
  pub apart : 0 < end → end < length keys → get_or keys (end - 1) 0 / 2 ^ 32 ≢ get_or keys end 0 / 2 ^ 32

low_half : (a b : ℕ) → a ≤ b → a / 2 ^ 32 ≤ b / 2 ^ 32
low_half a b below =
    let less = div-mul-le_self a (2 ^ 32) in
    le-div (a / 2 ^ 32) b (2 ^ 32) (omega arith) (omega (arith, less, below))

number_at : (names : List (List ℕ)) (keys : List ℕ) (i : ℕ) → All (IsKeyIn names) keys → i < length keys
    → number_of (get_or (map (name_at names) keys) i []) ≡ get_or keys i 0 / 2 ^ 32
number_at names keys i held within = ap number_of (get_or-map (name_at names) keys i 0 [] within) ∙ (held i 0 within).number

-- names on both sides of a place where the number changes differ
pub across : (names : List (List ℕ)) (keys : List ℕ) (begin i j : ℕ) → All (IsKeyIn names) keys → IsSorted nat_cmp keys
    → DifferUpTo names keys begin → i < begin → begin ≤ j → j < length keys
    → get_or (map (name_at names) keys) i [] ≢ get_or (map (name_at names) keys) j []
across names keys begin i j held sorted so_far before behind within same =
    let rises = IsNonDecreasingBy-from_sort (λ (k : ℕ). k) keys sorted in
    let one = low_half (get_or keys i 0) (get_or keys (begin - 1) 0) (rises i (begin - 1) 0 (omega arith) (omega arith)) in
    let two = low_half (get_or keys (begin - 1) 0) (get_or keys begin 0) (rises (begin - 1) begin 0 (omega arith) (omega arith)) in
    let three = low_half (get_or keys begin 0) (get_or keys j 0) (rises begin j 0 behind within) in
    let alike : get_or keys i 0 / 2 ^ 32 ≡ get_or keys j 0 / 2 ^ 32 =
    sym (number_at names keys i held (omega arith)) ∙ ap number_of same ∙ number_at names keys j held within in
    so_far.apart (omega arith) (omega arith) (omega (arith, one, two, three, alike))

part_is : (names : List (List ℕ)) (keys : List ℕ) (begin n : ℕ)
    → map (name_at names) (take n (drop begin keys)) ≡ take n (drop begin (map (name_at names) keys))
part_is names keys begin n =
    sym (take-map (name_at names) n (drop begin keys)) ∙ ap (take n) (sym (drop-map (name_at names) begin keys))

at_part : (all : List (List ℕ)) (begin n i k : ℕ) (d : List ℕ) → i ≡ begin + k → k < n → get_or (take n (drop begin all)) k d ≡ get_or all i d
at_part all begin n i k d is low =
    get_or-take n (drop begin all) k d low ∙ get_or-drop begin all k d ∙ ap (λ (m : ℕ). get_or all m d) (sym is)

part_long : (all : List (List ℕ)) (begin n : ℕ) → begin + n ≤ length all → length (take n (drop begin all)) ≡ n
part_long all begin n fits =
    let rest = length-drop begin all in
    let low : n ≤ length (drop begin all) = omega (arith, rest, fits) in
    length-take n (drop begin all) ∙ omega (arith, low)

-- names in one run differ where the run was found to
inside : (all : List (List ℕ)) (begin end i j : ℕ) → AllDiffer (take (end - begin) (drop begin all)) → end ≤ length all → begin ≤ i → i < j → j < end
    → get_or all i [] ≢ get_or all j []
inside all begin end i j run fits behind less low same =
    run (i - begin) (j - begin) [] (omega arith)
    (let long = part_long all begin (end - begin) (omega arith) in omega (arith, long))
    (at_part all begin (end - begin) i (i - begin) [] (omega arith) (omega arith) ∙ same
    ∙ sym (at_part all begin (end - begin) j (j - begin) [] (omega arith) (omega arith)))

-- a run more
pub run_more : (names : List (List ℕ)) (keys : List ℕ) (begin end : ℕ) → All (IsKeyIn names) keys → IsSorted nat_cmp keys → begin < end
    → end ≤ length keys → (end < length keys → get_or keys (end - 1) 0 / 2 ^ 32 ≢ get_or keys end 0 / 2 ^ 32)
    → AllDiffer (map (name_at names) (take (end - begin) (drop begin keys))) → DifferUpTo names keys begin → DifferUpTo names keys end
run_more names keys begin end held sorted more fits apart run so_far = record {
  within = fits;
  differ = λ i j less low. by_turns i j less low (cases_lt j begin) (cases_lt i begin);
  apart = λ some within. apart within;
}
  where
    all : List (List ℕ)
    all = map (name_at names) keys

    long : length all ≡ length keys
    long = length-map keys (name_at names)

    by_turns : (i j : ℕ) → i < j → j < end → (j < begin) ⊎ (begin ≤ j) → (i < begin) ⊎ (begin ≤ i) → get_or all i [] ≢ get_or all j []
    by_turns i j less low (inl before) other = so_far.differ i j less before
    by_turns i j less low (inr behind) (inl before) = across names keys begin i j held sorted so_far before behind (omega (arith, low, fits))
    by_turns i j less low (inr behind) (inr later) =
        inside all begin end i j (subst AllDiffer (part_is names keys begin (end - begin)) run) (omega (arith, long, fits)) later less low

-- all of them
pub run_done : (names : List (List ℕ)) (keys : List ℕ) (end : ℕ) → length keys ≤ end → DifferUpTo names keys end
    → Decides true (AllDiffer (map (name_at names) keys))
run_done names keys end whole so_far = (λ yes. all_differ, λ differ. refl)
  where
    all : List (List ℕ)
    all = map (name_at names) keys

    all_differ : AllDiffer all
    all_differ i j d less within same =
        let long = length-map keys (name_at names) in
        so_far.differ i j less (omega (arith, long, within, whole))
        (get_or_default all i [] d (omega (arith, less, within)) ∙ same ∙ sym (get_or_default all j [] d within))

-- where the names of one run don't differ, not all do
pub run_refused : (names : List (List ℕ)) (keys : List ℕ) (begin end : ℕ) (answer : Bool) → begin < end → end ≤ length keys
    → Decides answer (AllDiffer (map (name_at names) (take (end - begin) (drop begin keys)))) → answer ≡ false
    → Decides false (AllDiffer (map (name_at names) keys))
run_refused names keys begin end answer more fits decides was =
    (λ no. absurd (false≢true no), λ differ. sym was ∙ decides.1 (subst AllDiffer (sym (part_is names keys begin (end - begin))) (part differ)))
  where
    all : List (List ℕ)
    all = map (name_at names) keys

    part : AllDiffer all → AllDiffer (take (end - begin) (drop begin all))
    part differ i j d less within same =
        let keys_long = length-map keys (name_at names) in
        let long = part_long all begin (end - begin) (omega (arith, keys_long, fits, more)) in
        let low : j < end - begin = omega (arith, long, within) in
        differ (begin + i) (begin + j) d (omega (arith, less)) (omega (arith, low, keys_long, fits))
        (sym (at_part all begin (end - begin) (begin + i) i d refl (omega (arith, less, low))) ∙ same
        ∙ at_part all begin (end - begin) (begin + j) j d refl low)
