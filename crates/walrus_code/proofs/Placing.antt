-- Where a place stands in a list of places that differ, and one turn of a loop that gives indices along it.
use Rattle.std.proofs.Common.{inl, inr, ◌≡◌, ℕ, suc, ◌+◌, ◌<◌, Bool, true, false, List, [], ◌∷◌, ◌++◌, length, map, take, length-append, refl, sym, ap, ◌∙◌, subst, Some, None}
use Rattle.std.specs.Prelude.{◌≢◌, ◌⊎◌, ◌==◌, nat_eq, Option, option_map, slice_index_or, if◌then◌else◌}
use Rattle.std.specs.List.{IsDistinct}
use Rattle.std.proofs.lemmas.Bool.{ne_eqb}
use Rattle.std.proofs.lemmas.Bool.Decides.{eqb_tells}
use Rattle.walrus_base.specs.Id.{place}
use Rattle.walrus_base.specs.declared.id.Id.{Id}
use Rattle.walrus_base.specs.Shape.{place_in}
use Rattle.walrus_code.specs.Indices.{AddsIndex, NumbersAlong, index_in}
use Rattle.walrus_code.specs.declared.numbering.Numbering.{Numbering}
use Rattle.walrus_base.proofs.Turns.{map_more, split_at}
use Rattle.walrus_base.proofs.DistinctLemmas.{at_seam}
use Rattle.walrus_base.proofs.Standing.{self_eq}

new_step : (b : Bool) (o : Option ℕ) → (if b then Some 0 else option_map suc o) ≡ None → (b ≡ false) × (o ≡ None)
new_step true o e = absurd (cc)
new_step false None e = (refl, refl)
new_step false (Some k) e = absurd (cc)

pub placed_last : (xs : List ℕ) (t : ℕ) → place_in xs t ≡ None → place_in (xs ++ t ∷ []) t ≡ Some (length xs)
placed_last [] t e = ap (λ (b : Bool). if b then Some 0 else option_map suc (place_in [] t)) (self_eq t)
placed_last (x ∷ xs) t e =
    let p : ((x == t) ≡ false) × (place_in xs t ≡ None) = new_step (x == t) (place_in xs t) e in
    ap (λ (b : Bool). if b then Some 0 else option_map suc (place_in (xs ++ t ∷ []) t)) p.0 ∙ ap (option_map suc) (placed_last xs t p.1)

pub placed_other : (xs : List ℕ) (t u : ℕ) → u ≢ t → place_in (xs ++ t ∷ []) u ≡ place_in xs u
placed_other [] t u h = ap (λ (b : Bool). if b then Some 0 else option_map suc (place_in [] u)) (ne_eqb t u (λ e. h (sym e)))
placed_other (x ∷ xs) t u h = ap (λ (o : Option ℕ). if x == u then Some 0 else option_map suc o) (placed_other xs t u h)

fresh : (xs : List ℕ) (t : ℕ) (rest : List ℕ) → IsDistinct nat_eq (xs ++ t ∷ rest) → place_in xs t ≡ None
unfolding IsDistinct
fresh [] t rest h = refl
fresh (x ∷ xs) t rest h =
    ap (λ (b : Bool). if b then Some 0 else option_map suc (place_in xs t)) (at_seam (λ y. nat_eq x y ≡ false) xs t rest h.0)
    ∙ ap (option_map suc) (fresh xs t rest h.1)

-- the next id isn't among those so far
pub new_at : {K : Type 0} (order : List (Id K)) (i : ℕ) (d : Id K) → i < length order → IsDistinct nat_eq (map place order) → place_in (map place (take i order)) (place (slice_index_or order i d)) ≡ None
new_at order i d low differ =
    let parts = split_at place order i d low in
    fresh (map place (take i order)) (place (slice_index_or order i d)) parts.0 (subst (λ (ps : List ℕ). IsDistinct nat_eq ps) parts.1 differ)

-- ---- one more index

numbered_at : {K : Type 0} (now new : Numbering K) (done : List ℕ) (p n : ℕ) → NumbersAlong now done → place_in done p ≡ None → AddsIndex now new p
    → (((n == p) ≡ true) × (n ≡ p)) ⊎ (((n == p) ≡ false) × (n ≢ p)) → index_in new n ≡ place_in (done ++ p ∷ []) n
numbered_at now new done p n h none g (inl e) =
    subst (λ m. index_in new m ≡ place_in (done ++ p ∷ []) m) (sym e.1) (g.numbered ∙ ap Some h.counted ∙ sym (placed_last done p none))
numbered_at now new done p n h none g (inr e) = g.kept n e.1 ∙ h.numbered n ∙ sym (placed_other done p n e.1)

along_next : {K : Type 0} (now new : Numbering K) (done : List ℕ) (p : ℕ) → NumbersAlong now done → place_in done p ≡ None → AddsIndex now new p → NumbersAlong new (done ++ p ∷ [])
along_next now new done p h none g = record {
  counted = g.counted ∙ ap (λ k. k + 1) h.counted ∙ sym (length-append done (p ∷ []));
  numbered = λ n. numbered_at now new done p n h none g (eqb_tells n p);
}

pub along_turn : {K : Type 0} (now new : Numbering K) (order : List (Id K)) (i : ℕ) (d : Id K) → i < length order → IsDistinct nat_eq (map place order)
    → NumbersAlong now (map place (take i order)) → AddsIndex now new (place (slice_index_or order i d)) → NumbersAlong new (map place (take (i + 1) order))
along_turn now new order i d low differ h g =
    subst (λ (ps : List ℕ). NumbersAlong new ps) (sym (map_more place order i d low))
    (along_next now new (map place (take i order)) (place (slice_index_or order i d)) h (new_at order i d low differ) g)
