-- Numbers one behind another in front, and others behind them.
use Rattle.std.proofs.Common.{◌≡◌, ◌≢◌, Bool, true, false, subst, ℕ, zero, suc, ◌+◌, ◌-◌, ◌<◌, ◌≤◌, List, [], ◌∷◌, ◌++◌, length, map, refl, sym, ap, ◌∙◌, arith, append_assoc, length-append}
use Rattle.std.specs.Borrow.{Bor}
use Rattle.std.specs.Prelude.{if◌then◌else◌, IfSome, Option, None, Some, get_or, is_some, nat_lt, option_copied, option_map, slice_get}
use Rattle.std.specs.List.{range_with_len}
use Rattle.std.proofs.lemmas.List.{append-nil, length-map}
use Rattle.std.proofs.lemmas.Bool.{ltb-false, ltb-true}
use Rattle.std.proofs.lemmas.Option.{slice_get-map, slice_get_past, slice_get_read}
use Rattle.std.proofs.lemmas.List.FromFn.{length-range_with_len}
use Rattle.walrus_base.specs.Id.{place}
use Rattle.walrus_base.specs.declared.id.Id.{Id}
use Rattle.walrus_base.proofs.Ranges.{range-next}
use Rattle.walrus_base.proofs.Turns.{map_snoc}

-- one more in front, while none is behind
pub one_in_front : {K : Type 0} (n p : ℕ) (ids : List (Id K)) → length ids ≡ 0 → p ≡ n → range_with_len 0 (n + 1) ++ map place ids ≡ range_with_len 0 n ++ map place ids ++ p ∷ []
one_in_front n p (id ∷ ids) none is = absurd (omega arith)
one_in_front n p [] none is =
    append-nil (range_with_len 0 (n + 1)) ∙ range-next n
    ∙ ap (λ q. range_with_len 0 n ++ q ∷ []) (sym is)
    ∙ ap (λ xs. xs ++ p ∷ []) (sym (append-nil (range_with_len 0 n)))

-- one more behind
pub one_behind : {K : Type 0} (n : ℕ) (ids : List (Id K)) (id : Id K) → range_with_len 0 n ++ map place (ids ++ id ∷ []) ≡ range_with_len 0 n ++ map place ids ++ place id ∷ []
one_behind n ids id = ap (λ xs. range_with_len 0 n ++ xs) (map_snoc place ids id) ∙ sym (append_assoc (range_with_len 0 n) (map place ids) (place id ∷ []))

in_range : (a n i : ℕ) (behind : List ℕ) → i < n → slice_get (range_with_len a n ++ behind) i ≡ Some (a + i)
in_range a zero i behind low = absurd (omega arith)
in_range a (suc n) zero behind low = ap Some (omega arith)
in_range a (suc n) (suc i) behind low = in_range (a + 1) n i behind (omega arith) ∙ ap Some (omega arith)

-- what is in front is its index
pub in_front : (n i : ℕ) (behind : List ℕ) → i < n → slice_get (range_with_len 0 n ++ behind) i ≡ Some i
in_front n i behind low = in_range 0 n i behind low ∙ ap Some (omega arith)

past_range : (a n i k : ℕ) (behind : List ℕ) → i ≡ n + k → slice_get (range_with_len a n ++ behind) i ≡ slice_get behind k
past_range a zero i k behind is = ap (slice_get behind) (omega arith)
past_range a (suc n) zero k behind is = absurd (omega arith)
past_range a (suc n) (suc i) k behind is = past_range (a + 1) n i k behind (omega arith)

-- what isn't stands behind
pub not_in_front : (n i k : ℕ) (behind : List ℕ) → i ≡ n + k → slice_get (range_with_len 0 n ++ behind) i ≡ slice_get behind k
not_in_front = past_range 0

-- how many both are
pub both_counted : {K : Type 0} (n : ℕ) (ids : List (Id K)) → length (range_with_len 0 n ++ map place ids) ≡ n + length ids
both_counted n ids =
    let front : length (range_with_len 0 n) ≡ n = length-range_with_len 0 n in
    let behind : length (map place ids) ≡ length ids = length-map ids place in
    let both : length (range_with_len 0 n ++ map place ids) ≡ length (range_with_len 0 n) + length (map place ids) = length-append (range_with_len 0 n) (map place ids) in
    omega (arith, front, behind, both)

-- one more has room
pub few_more : {K : Type 0} (n m : ℕ) (ids : List (Id K)) → length (range_with_len 0 n ++ map place ids) < m → n + 1 ≤ m
few_more n m ids room =
    let all = both_counted n ids in
    omega (arith, room, all)

-- an element that was looked up in a list
pub looked_up : {A : Type 0} (xs : List A) (k : ℕ) (found : Option (Bor A)) → is_some found ≡ nat_lt k (length xs) → IfSome found (λ x. x.now ≡ get_or xs k x.now) → option_copied found ≡ slice_get xs k
looked_up xs k None there at = sym (slice_get_past xs k (ltb-false k (length xs) (sym there)))
looked_up xs k (Some x) there at = sym (slice_get_read xs (length xs) k x.now refl (ltb-true k (length xs) (sym there)) at)

-- the item of an index that isn't in front
pub got_behind : {K : Type 0} (n i : ℕ) (ids : List (Id K)) (found : Option (Id K)) → found ≡ slice_get ids (i - n) → n ≤ i → option_map place found ≡ slice_get (range_with_len 0 n ++ map place ids) i
got_behind n i ids found is past =
    ap (option_map place) is ∙ sym (slice_get-map place ids (i - n)) ∙ sym (not_in_front n i (i - n) (map place ids) (omega arith))

-- none behind is no further one in front
pub none_further : {K : Type 0} (n : ℕ) (ids : List (Id K)) → length ids ≡ 0 → slice_get (map place ids) 0 ≢ Some n
none_further n [] none = λ e. absurd cc
none_further n (id ∷ ids) none = absurd (omega arith)

-- nor is one behind the others, unless it is the first and at the place of the next index
pub still_no_more : {K : Type 0} (n : ℕ) (ids : List (Id K)) (id : Id K) → slice_get (map place ids) 0 ≢ Some n → (length ids ≡ 0 → place id ≢ n) → slice_get (map place (ids ++ id ∷ [])) 0 ≢ Some n
still_no_more n [] id first other = λ e. other refl cc
still_no_more n (x ∷ ids) id first other = first

-- one that is pushed, or not for want of memory
pub pushed_no_more : {K : Type 0} (n : ℕ) (old new : List (Id K)) (id : Id K) (t : Bool) → new ≡ (if t then old ++ id ∷ [] else old)
    → slice_get (map place (old ++ id ∷ [])) 0 ≢ Some n → slice_get (map place old) 0 ≢ Some n → slice_get (map place new) 0 ≢ Some n
pushed_no_more n old new id true is pushed kept = subst (λ (ids : List (Id _)). slice_get (map place ids) 0 ≢ Some n) (sym is) pushed
pushed_no_more n old new id false is pushed kept = subst (λ (ids : List (Id _)). slice_get (map place ids) 0 ≢ Some n) (sym is) kept

-- the one at the next index isn't at its place
pub no_more_in_front : {K : Type 0} (n : ℕ) (ids : List (Id K)) → slice_get (map place ids) 0 ≢ Some n → slice_get (range_with_len 0 n ++ map place ids) n ≢ Some n
no_more_in_front n ids other = λ e. other (sym (not_in_front n n 0 (map place ids) (omega arith)) ∙ e)
