-- The order of sections, by their places in it.
use Rattle.std.proofs.Common.{◌≡◌, ℕ, zero, suc, ◌+◌, ◌-◌, ◌<◌, ◌≤◌, Bool, true, false, List, length, get_or, refl, sym, ap, subst, arith, eqb-true}
use Rattle.std.specs.Prelude.{Some, AllPairs, slice_get, if◌then◌else◌, ◌==◌}
use Rattle.std.proofs.lemmas.List.{get_or_default}
use Rattle.wasm_frames.specs.Order.{StandsBefore, standard_order}
use Rattle.wasm_wire.specs.Ranks.{rank_of}

place_rank : (i a : ℕ) → slice_get standard_order i ≡ Some a → rank_of a ≡ i + 1
place_rank zero a e = let f : 1 ≡ a = cc in subst (λ (n : ℕ). rank_of n ≡ 1) f refl
place_rank (suc zero) a e = let f : 2 ≡ a = cc in subst (λ (n : ℕ). rank_of n ≡ 2) f refl
place_rank (suc (suc zero)) a e = let f : 3 ≡ a = cc in subst (λ (n : ℕ). rank_of n ≡ 3) f refl
place_rank (suc (suc (suc zero))) a e = let f : 4 ≡ a = cc in subst (λ (n : ℕ). rank_of n ≡ 4) f refl
place_rank (suc (suc (suc (suc zero)))) a e = let f : 5 ≡ a = cc in subst (λ (n : ℕ). rank_of n ≡ 5) f refl
place_rank (suc (suc (suc (suc (suc zero))))) a e = let f : 13 ≡ a = cc in subst (λ (n : ℕ). rank_of n ≡ 6) f refl
place_rank (suc (suc (suc (suc (suc (suc zero)))))) a e = let f : 6 ≡ a = cc in subst (λ (n : ℕ). rank_of n ≡ 7) f refl
place_rank (suc (suc (suc (suc (suc (suc (suc zero))))))) a e = let f : 7 ≡ a = cc in subst (λ (n : ℕ). rank_of n ≡ 8) f refl
place_rank (suc (suc (suc (suc (suc (suc (suc (suc zero)))))))) a e = let f : 8 ≡ a = cc in subst (λ (n : ℕ). rank_of n ≡ 9) f refl
place_rank (suc (suc (suc (suc (suc (suc (suc (suc (suc zero))))))))) a e = let f : 9 ≡ a = cc in subst (λ (n : ℕ). rank_of n ≡ 10) f refl
place_rank (suc (suc (suc (suc (suc (suc (suc (suc (suc (suc zero)))))))))) a e = let f : 12 ≡ a = cc in subst (λ (n : ℕ). rank_of n ≡ 11) f refl
place_rank (suc (suc (suc (suc (suc (suc (suc (suc (suc (suc (suc zero))))))))))) a e = let f : 10 ≡ a = cc in subst (λ (n : ℕ). rank_of n ≡ 12) f refl
place_rank (suc (suc (suc (suc (suc (suc (suc (suc (suc (suc (suc (suc zero)))))))))))) a e = let f : 11 ≡ a = cc in subst (λ (n : ℕ). rank_of n ≡ 13) f refl
place_rank (suc (suc (suc (suc (suc (suc (suc (suc (suc (suc (suc (suc (suc i))))))))))))) a e = cc

-- the place that the first of these tests that holds gives
abbrev first_of : (t0 t1 t2 t3 t4 t5 t6 t7 t8 t9 t10 t11 t12 : Bool) → ℕ
first_of t0 t1 t2 t3 t4 t5 t6 t7 t8 t9 t10 t11 t12 = if t0 then 1 else (if t1 then 2 else (if t2 then 3 else (if t3 then 4 else (if t4 then 5 else (if t5 then 6 else (if t6 then 7 else (if t7 then 8 else (if t8 then 9 else (if t9 then 10 else (if t10 then 11 else (if t11 then 12 else (if t12 then 13 else 0))))))))))))

by_tests : (a : ℕ) (t0 t1 t2 t3 t4 t5 t6 t7 t8 t9 t10 t11 t12 : Bool) → (a == 1) ≡ t0 → (a == 2) ≡ t1 → (a == 3) ≡ t2 → (a == 4) ≡ t3 → (a == 5) ≡ t4 → (a == 13) ≡ t5 → (a == 6) ≡ t6 → (a == 7) ≡ t7 → (a == 8) ≡ t8 → (a == 9) ≡ t9 → (a == 12) ≡ t10 → (a == 10) ≡ t11 → (a == 11) ≡ t12
    → 0 < first_of t0 t1 t2 t3 t4 t5 t6 t7 t8 t9 t10 t11 t12 → slice_get standard_order (first_of t0 t1 t2 t3 t4 t5 t6 t7 t8 t9 t10 t11 t12 - 1) ≡ Some a
by_tests a true t1 t2 t3 t4 t5 t6 t7 t8 t9 t10 t11 t12 e0 e1 e2 e3 e4 e5 e6 e7 e8 e9 e10 e11 e12 h = ap Some (sym (eqb-true a 1 e0))
by_tests a false true t2 t3 t4 t5 t6 t7 t8 t9 t10 t11 t12 e0 e1 e2 e3 e4 e5 e6 e7 e8 e9 e10 e11 e12 h = ap Some (sym (eqb-true a 2 e1))
by_tests a false false true t3 t4 t5 t6 t7 t8 t9 t10 t11 t12 e0 e1 e2 e3 e4 e5 e6 e7 e8 e9 e10 e11 e12 h = ap Some (sym (eqb-true a 3 e2))
by_tests a false false false true t4 t5 t6 t7 t8 t9 t10 t11 t12 e0 e1 e2 e3 e4 e5 e6 e7 e8 e9 e10 e11 e12 h = ap Some (sym (eqb-true a 4 e3))
by_tests a false false false false true t5 t6 t7 t8 t9 t10 t11 t12 e0 e1 e2 e3 e4 e5 e6 e7 e8 e9 e10 e11 e12 h = ap Some (sym (eqb-true a 5 e4))
by_tests a false false false false false true t6 t7 t8 t9 t10 t11 t12 e0 e1 e2 e3 e4 e5 e6 e7 e8 e9 e10 e11 e12 h = ap Some (sym (eqb-true a 13 e5))
by_tests a false false false false false false true t7 t8 t9 t10 t11 t12 e0 e1 e2 e3 e4 e5 e6 e7 e8 e9 e10 e11 e12 h = ap Some (sym (eqb-true a 6 e6))
by_tests a false false false false false false false true t8 t9 t10 t11 t12 e0 e1 e2 e3 e4 e5 e6 e7 e8 e9 e10 e11 e12 h = ap Some (sym (eqb-true a 7 e7))
by_tests a false false false false false false false false true t9 t10 t11 t12 e0 e1 e2 e3 e4 e5 e6 e7 e8 e9 e10 e11 e12 h = ap Some (sym (eqb-true a 8 e8))
by_tests a false false false false false false false false false true t10 t11 t12 e0 e1 e2 e3 e4 e5 e6 e7 e8 e9 e10 e11 e12 h = ap Some (sym (eqb-true a 9 e9))
by_tests a false false false false false false false false false false true t11 t12 e0 e1 e2 e3 e4 e5 e6 e7 e8 e9 e10 e11 e12 h = ap Some (sym (eqb-true a 12 e10))
by_tests a false false false false false false false false false false false true t12 e0 e1 e2 e3 e4 e5 e6 e7 e8 e9 e10 e11 e12 h = ap Some (sym (eqb-true a 10 e11))
by_tests a false false false false false false false false false false false false true e0 e1 e2 e3 e4 e5 e6 e7 e8 e9 e10 e11 e12 h = ap Some (sym (eqb-true a 11 e12))
by_tests a false false false false false false false false false false false false false e0 e1 e2 e3 e4 e5 e6 e7 e8 e9 e10 e11 e12 h = absurd (omega arith)

rank_place : (a : ℕ) → 0 < rank_of a → slice_get standard_order (rank_of a - 1) ≡ Some a
rank_place a h = by_tests a (a == 1) (a == 2) (a == 3) (a == 4) (a == 5) (a == 13) (a == 6) (a == 7) (a == 8) (a == 9) (a == 12) (a == 10) (a == 11) refl refl refl refl refl refl refl refl refl refl refl refl refl h

pub stands_from_ranks : (a b : ℕ) → 0 < rank_of a → rank_of a < rank_of b → StandsBefore a b
stands_from_ranks a b some less = record {
  place_of_a = rank_of a - 1;
  place_of_b = rank_of b - 1;
  earlier = omega arith;
  a_stands = rank_place a some;
  b_stands = rank_place b (omega arith);
}

pub some_rank : (a b : ℕ) → StandsBefore a b → 0 < rank_of a
some_rank a b h = omega (arith, place_rank h.place_of_a a h.a_stands)

pub lower_rank : (a b : ℕ) → StandsBefore a b → rank_of a < rank_of b
lower_rank a b h = omega (arith, place_rank h.place_of_a a h.a_stands, place_rank h.place_of_b b h.b_stands, h.earlier)

stands_trans : (a b c : ℕ) → StandsBefore a b → StandsBefore b c → StandsBefore a c
stands_trans a b c h k = stands_from_ranks a c (some_rank a b h) (omega (arith, lower_rank a b h, lower_rank b c k))

-- each stands before the next one
abbrev pub EachBeforeNext : List ℕ → ℕ → Type 0
EachBeforeNext xs n = (k : ℕ) → k + 1 < n → StandsBefore (get_or xs k 0) (get_or xs (k + 1) 0)

far_apart : (xs : List ℕ) (n : ℕ) → EachBeforeNext xs n → (gap i : ℕ) → i + suc gap < n → StandsBefore (get_or xs i 0) (get_or xs (i + suc gap) 0)
far_apart xs n h zero i less = subst (λ (k : ℕ). StandsBefore (get_or xs i 0) (get_or xs k 0)) (omega arith) (h i (omega arith))
far_apart xs n h (suc gap) i less =
    let last : StandsBefore (get_or xs (i + suc gap) 0) (get_or xs (i + suc gap + 1) 0) = h (i + suc gap) (omega arith) in
    let same : i + suc gap + 1 ≡ i + suc (suc gap) = omega arith in
    subst (λ (k : ℕ). StandsBefore (get_or xs i 0) (get_or xs k 0)) same
    (stands_trans (get_or xs i 0) (get_or xs (i + suc gap) 0) (get_or xs (i + suc gap + 1) 0) (far_apart xs n h gap i (omega arith)) last)

pub pairs_from_next : (xs : List ℕ) (n : ℕ) → length xs ≤ n → EachBeforeNext xs n → AllPairs StandsBefore xs
pairs_from_next xs n all h = λ i j d less within.
    let later : i + suc (j - i - 1) ≡ j = omega arith in
    let h' : EachBeforeNext xs (length xs) = λ k m. h k (omega arith) in
    let stands : StandsBefore (get_or xs i 0) (get_or xs j 0) = subst (λ (k : ℕ). StandsBefore (get_or xs i 0) (get_or xs k 0)) later (far_apart xs (length xs) h' (j - i - 1) i (omega arith)) in
    subst (λ (x : ℕ). StandsBefore x (get_or xs j d)) (get_or_default xs i 0 d (omega arith)) (subst (λ (y : ℕ). StandsBefore (get_or xs i 0) y) (get_or_default xs j 0 d within) stands)
