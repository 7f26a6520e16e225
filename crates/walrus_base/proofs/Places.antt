-- The places of a group.
use Rattle.std.proofs.Common.{◌≡◌, ℕ, zero, suc, ◌+◌, ◌-◌, ◌<◌, ◌≤◌, List, [], ◌∷◌, ◌++◌, map, refl, ap, sym, ◌∙◌, arith, append_assoc, append-nil}
use Rattle.std.proofs.lemmas.List.{map-append}
use Rattle.walrus_base.specs.Id.{place}
use Rattle.walrus_base.specs.declared.id.Id.{Id}
use Rattle.std.specs.List.{range_with_len}
use Rattle.walrus_base.specs.TypeDef.{places_between}

pub between_more : (a b : ℕ) → a < b → places_between a b ≡ a ∷ places_between (a + 1) b
between_more a b h = let e : b - a ≡ suc (b - (a + 1)) = omega arith in rw e refl

pub between_done : (a b : ℕ) → b ≤ a → places_between a b ≡ []
between_done a b h = let e : b - a ≡ 0 = omega arith in rw e refl

pub between_count : (a b n : ℕ) → b ≡ a + n → places_between a b ≡ range_with_len a n
between_count a b n h = let e : b - a ≡ n = omega arith in rw e refl

one_place : (a n p : ℕ) → range_with_len a n ≡ p ∷ [] → (a ≡ p) × (n ≡ 1)
one_place a zero p h = absurd cc
one_place a (suc zero) p h = (cc, refl)
one_place a (suc (suc n)) p h = absurd cc

-- one place alone
pub between_one : (a b : ℕ) → a < b → b - a ≡ 1 → places_between a b ≡ a ∷ []
between_one a b h e = rw e refl

pub one_between : (a b p : ℕ) → places_between a b ≡ p ∷ [] → (a ≡ p) × (a < b) × (b - a ≡ 1)
one_between a b p h = let one : (a ≡ p) × (b - a ≡ 1) = one_place a (b - a) p h in let lt : a < b = omega (arith, one.1) in (one.0, lt, one.1)

-- an id that is put behind others next
pub next_id_step : {K : Type 0} (ids now : List (Id K)) (id : Id K) (a b : ℕ) (all : List ℕ) → a < b → place id ≡ a → now ≡ ids ++ id ∷ [] → map (λ x. place x) ids ++ places_between a b ≡ all → map (λ x. place x) now ++ places_between (a + 1) b ≡ all
next_id_step ids now id a b all lt is more so_far =
    ap (λ xs. map (λ x. place x) xs ++ places_between (a + 1) b) more
    ∙ ap (λ ps. ps ++ places_between (a + 1) b) (map-append (λ x. place x) ids (id ∷ []))
    ∙ append_assoc (map (λ x. place x) ids) (place id ∷ []) (places_between (a + 1) b)
    ∙ ap (λ n. map (λ x. place x) ids ++ (n ∷ places_between (a + 1) b)) is
    ∙ ap (λ ps. map (λ x. place x) ids ++ ps) (sym (between_more a b lt)) ∙ so_far

-- all ids are there
pub next_ids_done : {K : Type 0} (ids : List (Id K)) (first now end count all : ℕ) → end ≤ now → end ≡ first + count → first ≡ all → map (λ x. place x) ids ++ places_between now end ≡ places_between first end → map (λ x. place x) ids ≡ range_with_len all count
next_ids_done ids first now end count all h e f so_far =
    sym (append-nil (map (λ x. place x) ids)) ∙ sym (ap (λ ps. map (λ x. place x) ids ++ ps) (between_done now end h)) ∙ so_far ∙ between_count first end count e ∙ ap (λ k. range_with_len k count) f
