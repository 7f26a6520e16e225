-- Numbers one behind another.
use Rattle.std.proofs.Common.{◌≡◌, ℕ, zero, suc, ◌+◌, ◌<◌, List, [], ◌∷◌, ◌++◌, length, map, get_or, sym, ap, ◌∙◌, arith}
use Rattle.std.specs.Prelude.{Contains}
use Rattle.std.specs.List.{range_with_len}
use Rattle.std.proofs.lemmas.List.{get_or-map}
use Rattle.std.proofs.lemmas.List.FromFn.{length-range_with_len, get_or-range_with_len}
use Rattle.walrus_base.specs.Id.{place}
use Rattle.walrus_base.specs.declared.id.Id.{Id}

pub range-more : (a n : ℕ) → range_with_len a (n + 1) ≡ range_with_len a n ++ (a + n) ∷ []
range-more a zero = ap (λ k. k ∷ []) (omega arith)
range-more a (suc n) =
    let one_more : suc n + 1 ≡ suc (n + 1) = omega arith in
    ap (λ k. range_with_len a k) one_more ∙ ap (λ ks. a ∷ ks) (range-more (a + 1) n ∙ ap (λ k. range_with_len (a + 1) n ++ k ∷ []) (omega arith))

pub range-next : (n : ℕ) → range_with_len 0 (n + 1) ≡ range_with_len 0 n ++ n ∷ []
range-next n = range-more 0 n ∙ ap (λ k. range_with_len 0 n ++ k ∷ []) (omega arith)

-- a number behind those that are counted isn't among them
pub not-in-range : (n p : ℕ) (xs : List ℕ) → xs ≡ range_with_len 0 n → p ≡ n → Contains xs p → ⊥
not-in-range n p xs h e (k, low, is) =
    let long : length xs ≡ n = ap length h ∙ length-range_with_len 0 n in
    let at : get_or xs k p ≡ 0 + k = ap (λ ys. get_or ys k p) h ∙ get_or-range_with_len 0 n k p (omega (arith, long, low)) in
    let same : get_or xs k p ≡ p = is in
    omega (arith, long, at, same, low, e)

-- the place of an id among ids whose places are numbers one behind another
pub place-in-range : {K : Type 0} (ids : List (Id K)) (first i : ℕ) (d : Id K) → map (λ id. place id) ids ≡ range_with_len first (length ids) → i < length ids → place (get_or ids i d) ≡ first + i
place-in-range ids first i d h l = sym (get_or-map (λ id. place id) ids i d 0 l) ∙ ap (λ ps. get_or ps i 0) h ∙ get_or-range_with_len first (length ids) i 0 l

-- one more number
pub counted-on : (old new : List ℕ) (p m k : ℕ) → new ≡ old ++ p ∷ [] → old ≡ range_with_len 0 m → p ≡ m → k ≡ m + 1 → new ≡ range_with_len 0 k
counted-on old new p m k pushed before at next =
    pushed ∙ ap (λ ps. ps ++ p ∷ []) before ∙ ap (λ q. range_with_len 0 m ++ q ∷ []) at ∙ sym (range-next m) ∙ ap (λ n. range_with_len 0 n) (sym next)
